-- The blocks of a walk.
use Rattle.std.specs.Prelude.{◌≡◌, ℕ, ◌+◌, ◌-◌, ◌<◌, ◌^◌, List, length, take, drop, slice_index}
use Rattle.std.specs.Prelude.{slice_index_or, Option}
use Rattle.rail_types.specs.declared.tracks.Block.{Block}
use Rattle.signal_blocks.specs.Cuts.{point_at, metres_at, sight_at, cut_places}
use Rattle.signal_blocks.specs.Cells.{cells_between, or_number}
use Rattle.signal_blocks.specs.Speeds.{least_limit}
use Rattle.signal_blocks.specs.Served.{AreServed}
use Rattle.signal_blocks.specs.declared.block_cuts.lines.Lines.{Lines}
use Rattle.route_walk.specs.declared.walks.Stretch.{Stretch}
use Rattle.route_walk.specs.declared.walks.Walk.{Walk}

-- how many stretches of a walk lie before a place
abbrev pub reach_at : Walk → ℕ → ℕ
reach_at walk place = (point_at walk.passed place).reach

-- the stretches of track between two places of a walk
abbrev pub stretches_between : Walk → ℕ → ℕ → List Stretch
stretches_between walk from to =
    take (reach_at walk to - reach_at walk from) (drop (reach_at walk from) walk.stretches)

-- the sight distance of the signal at a point, 0 without one
abbrev pub sight_from : List (Option ℕ) → ℕ → ℕ
sight_from sights point = or_number 0 (sight_at sights point)

-- The block between two places of a walk.
pub record IsBlock (lines : Lines) (walk : Walk) (from to : ℕ) (block : Block) : Type 0 where
  pub long : block.length_m ≡ metres_at walk.passed to - metres_at walk.passed from
  pub speed : block.speed ≡ least_limit lines.ranges (stretches_between walk from to)
  pub sight : block.sight_m ≡ sight_from lines.sights (point_at walk.passed from).point
  pub cells : block.cells ≡ cells_between walk from to
  pub begins : block.from_point ≡ (point_at walk.passed from).point
  pub ends : block.to_point ≡ (point_at walk.passed to).point
  pub serves : AreServed lines.parts (stretches_between walk from to) block.serves

-- One block between each two neighbouring cuts, in order.
pub record AreBlocks (lines : Lines) (walk : Walk) (cuts : List ℕ)
    (blocks : List Block) : Type 0 where
  pub many : length blocks + 1 ≡ length cuts
  pub each : (k : ℕ) (d : Block) → k < length blocks
      → IsBlock lines walk (slice_index cuts k) (slice_index cuts (k + 1))
      (slice_index_or blocks k d)

-- The blocks of a walk, between its cuts.
abbrev pub AreBlocksOf : Lines → Walk → List Block → Type 0
AreBlocksOf lines walk blocks =
    AreBlocks lines walk (cut_places lines.sights walk.passed) blocks

-- *Inside*: each length between neighbouring cuts is a number of 32 bits.
abbrev pub AreShort : Walk → List ℕ → Type 0
AreShort walk cuts =
    (k : ℕ) → k + 1 < length cuts
    → metres_at walk.passed (slice_index cuts (k + 1)) - metres_at walk.passed (slice_index cuts k)
    < 2 ^ 32
