-- The network of a railway.
use Rattle.std.specs.Prelude.{◌≡◌, ℕ, ◌<◌, ◌≤◌, ◌^◌, ◌++◌, List, [], ◌∷◌, length, Some}
use Rattle.std.specs.List.{All}
use Rattle.rail_types.specs.declared.limits.TheConstants.{MAX_OBJECTS, MAX_SIGHT_M}
use Rattle.rail_types.specs.declared.tracks.Block.{Block}
use Rattle.rail_types.specs.declared.tracks.Network.{Network}
use Rattle.signal_blocks.specs.Blocks.{AreBlocksOf, AreShort}
use Rattle.signal_blocks.specs.Cuts.{sight_at, cut_places}
use Rattle.signal_blocks.specs.declared.block_cuts.faults.Railway.{Railway}
use Rattle.signal_blocks.specs.declared.block_cuts.lines.Lines.{Lines}
use Rattle.route_walk.specs.Sound.{IsSound, IsWalk}
use Rattle.route_walk.specs.declared.walks.Walk.{Walk}

-- The blocks of the walks, those of one walk behind those of the other.
abbrev pub AreInOrder : Lines → List Walk → List Block → Type 0
AreInOrder lines [] blocks = blocks ≡ []
AreInOrder lines (walk ∷ walks) blocks =
    (own : List Block) × (rest : List Block) × (blocks ≡ own ++ rest)
    × AreBlocksOf lines walk own × AreInOrder lines walks rest

-- The network has the railway's zones, points and operational points, and the blocks of its walks.
pub record IsNetwork (railway : Railway) (network : Network) : Type 0 where
  pub zones : network.zones ≡ railway.zones
  pub points : network.points ≡ railway.points
  pub stops : network.stops ≡ railway.stops
  pub blocks : AreInOrder railway.lines railway.walks network.blocks

-- What holds of each railway: walks over its zones and points, numbers within their limits.
pub record IsRailway (railway : Railway) : Type 0 where
  pub few : length railway.walks < 2 ^ 32
  pub walks : All (IsSound railway.zones railway.points) railway.walks
  pub stops : railway.stops ≤ MAX_OBJECTS
  pub parts : All (λ part. part.stop < railway.stops) railway.lines.parts
  pub limits : All (λ range. 1 ≤ range.limit) railway.lines.ranges
  pub sights : (point sight : ℕ) → sight_at railway.lines.sights point ≡ Some sight
      → sight ≤ MAX_SIGHT_M

-- *Inside*: a walk whose blocks are short enough.
pub record AreFine (lines : Lines) (walk : Walk) : Type 0 where
  pub sound : IsWalk walk
  pub short : AreShort walk (cut_places lines.sights walk.passed)
