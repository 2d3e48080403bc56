-- The blocks of a network by the point at which they begin.
use Rattle.std.specs.Prelude.{◌≡◌, ◌⊎◌, ℕ, ◌<◌, List, [], length, Contains, Some, slice_get}
use Rattle.std.specs.List.{slice_index_or}
use Rattle.rail_types.specs.declared.tracks.Network.{Network}
use Rattle.blocking_time.specs.Runs.{block_at}

-- at each point's number stand those of the first blocks that begin there, so many being looked at
pub record AreByPoint (net : Network) (count : ℕ) (lists : List (List ℕ)) : Type 0 where
  pub points : length lists ≡ net.points
  pub sound : (point block : ℕ) (blocks : List ℕ) → slice_get lists point ≡ Some blocks
      → Contains blocks block → (block < count) × ((block_at net block).from_point ≡ point)
  pub whole : (block : ℕ) (blocks : List ℕ) → block < count
      → slice_get lists (block_at net block).from_point ≡ Some blocks → Contains blocks block

-- at each operational point's number stand those of the first blocks that
-- serve it, so many being looked at
pub record AreServing (net : Network) (count : ℕ) (lists : List (List ℕ)) : Type 0 where
  pub stops : length lists ≡ net.stops
  pub sound : (stop block : ℕ) → Contains (slice_index_or lists stop []) block
      → (block < count) × Contains (block_at net block).serves stop
  pub whole : (stop block : ℕ) → block < count → Contains (block_at net block).serves stop
      → Contains (slice_index_or lists stop []) block

-- the blocks of a network by the point at which they begin, and by the
-- operational points that they serve
pub record BlocksByNumber : Type 0 where
  pub by_point : List (List ℕ)
  pub by_stop : List (List ℕ)

-- at each point's number stand the blocks that begin there, at each
-- operational point's those that serve it
pub record AreFollowers (net : Network) (lists : BlocksByNumber) : Type 0 where
  pub by_point : AreByPoint net (length net.blocks) lists.by_point
  pub by_stop : AreServing net (length net.blocks) lists.by_stop

-- inside: a block is put behind the others at the numbers of these operational points
pub record AreServedBy (stops : List ℕ) (block : ℕ) (old new : List (List ℕ)) : Type 0 where
  pub count : length new ≡ length old
  pub sound : (stop other : ℕ) → Contains (slice_index_or new stop []) other
      → Contains (slice_index_or old stop []) other ⊎ ((other ≡ block) × Contains stops stop)
  pub kept : (stop other : ℕ) → Contains (slice_index_or old stop []) other
      → Contains (slice_index_or new stop []) other
  pub whole : (stop : ℕ) → Contains stops stop → Contains (slice_index_or new stop []) block
