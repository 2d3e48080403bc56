-- What a network without flaws is, and which of its blocks follow one another.
use Rattle.std.specs.Prelude.{◌≡◌, ℕ, ◌<◌, ◌≤◌, Some, length, map, sum, slice_get, All, AllPairs}
use Rattle.rail_types.specs.declared.limits.TheConstants.{MAX_OBJECTS, MAX_CELLS}
use Rattle.rail_types.specs.declared.tracks.Block.{Block}
use Rattle.rail_types.specs.declared.tracks.Network.{Network}

-- block b begins at the point where block a ends
abbrev pub Follows : Network → ℕ → ℕ → Type 0
Follows net a b =
    (x y : Block) × (slice_get net.blocks a ≡ Some x) × (slice_get net.blocks b ≡ Some y)
    × (y.from_point ≡ x.to_point)

-- a block with a cell, whose zones, points and operational points are those of the network; its
-- cells are released in their order, and the operational points that it serves ascend
pub record IsBlockOf (net : Network) (block : Block) : Type 0 where
  pub some : 1 ≤ length block.cells
  pub zones : All (λ cell. cell.zone < net.zones) block.cells
  pub releases : AllPairs (λ one later. one.release_m ≤ later.release_m) block.cells
  pub begins : block.from_point < net.points
  pub ends : block.to_point < net.points
  pub served : All (λ stop. stop < net.stops) block.serves
  pub ascending : AllPairs (λ one later. one < later) block.serves

-- no more of anything than its limit
pub record HasCountsWithinLimits (net : Network) : Type 0 where
  pub zones : net.zones ≤ MAX_OBJECTS
  pub points : net.points ≤ MAX_OBJECTS
  pub stops : net.stops ≤ MAX_OBJECTS
  pub blocks : length net.blocks ≤ MAX_OBJECTS
  pub cells : sum (map (λ block. length block.cells) net.blocks) ≤ MAX_CELLS
