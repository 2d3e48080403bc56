-- The operational points that a block serves.
use Rattle.std.specs.Prelude.{ℕ, Bool, ◌&&◌, ◌↔◌, nat_eq, nat_le, List, map}
use Rattle.std.specs.List.{filter, flat_map, Contains}
use Rattle.std.specs.List.Sorted.{IsStrictlyIncreasing}
use Rattle.signal_blocks.specs.declared.block_cuts.lines.StopPart.{StopPart}
use Rattle.route_walk.specs.declared.walks.Stretch.{Stretch}

-- whether a part lies on a stretch, its ends included
abbrev pub lies_on : Stretch → StopPart → Bool
lies_on stretch part =
    nat_eq part.part.track stretch.track
    && (nat_le stretch.low part.part.position && nat_le part.part.position stretch.high)

-- the operational points of the parts that lie on a stretch
abbrev pub stops_in : List StopPart → Stretch → List ℕ
stops_in parts stretch = map (λ part. part.stop) (filter (lies_on stretch) parts)

-- the operational points of the parts that lie on the stretches
abbrev pub stops_on : List StopPart → List Stretch → List ℕ
stops_on parts stretches = flat_map (λ stretch. stops_in parts stretch) stretches

-- Each operational point with a part on the stretches, once, ascending.
pub record AreServed (parts : List StopPart) (stretches : List Stretch)
    (stops : List ℕ) : Type 0 where
  pub rises : IsStrictlyIncreasing stops
  pub each : (stop : ℕ) → Contains stops stop ↔ Contains (stops_on parts stretches) stop
