-- What lies along the tracks, as an infrastructure lists it.
use Rattle.std.specs.Prelude.{ℕ, ◌+◌, List, [], ◌∷◌, ◌++◌, map, Option, Some, None}
use Rattle.std.specs.List.{flat_map}
use Rattle.signal_blocks.specs.declared.block_cuts.lines.SpeedRange.{SpeedRange}
use Rattle.signal_blocks.specs.declared.block_cuts.lines.StopPart.{StopPart}
use Rattle.rail_types.specs.declared.infra_types.tracks.OperationalPoint.{OperationalPoint}
use Rattle.rail_types.specs.declared.infra_types.tracks.Range.{Range}
use Rattle.rail_types.specs.declared.infra_types.tracks.SpeedSection.{SpeedSection}

-- ranges with their limit, none without a limit
abbrev pub limited : Option ℕ → List Range → List SpeedRange
limited None ranges = []
limited (Some limit) ranges = map (λ range. record { range = range; limit = limit }) ranges

-- the ranges of the speed sections that set a limit
abbrev pub speed_ranges : List SpeedSection → List SpeedRange
speed_ranges sections = flat_map (λ section. limited section.limit section.ranges) sections

abbrev pub parts_of : ℕ → OperationalPoint → List StopPart
parts_of stop point = map (λ part. record { stop = stop; part = part }) point.parts

-- the parts of operational points that are numbered from this number on
abbrev pub parts_from : ℕ → List OperationalPoint → List StopPart
parts_from stop [] = []
parts_from stop (point ∷ points) = parts_of stop point ++ parts_from (stop + 1) points

-- the parts of operational points, numbered in the file's order
abbrev pub stop_parts : List OperationalPoint → List StopPart
stop_parts points = parts_from 0 points
