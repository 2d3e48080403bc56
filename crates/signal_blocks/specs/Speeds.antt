-- The speed of a block.
use Rattle.std.specs.Prelude.{ℕ, Bool, true, false, ◌&&◌, nat_eq, nat_lt, min, max, List, map}
use Rattle.std.specs.List.{filter, flat_map, fold}
use Rattle.rail_types.specs.declared.limits.TheConstants.{MAX_SPEED_MM_S}
use Rattle.rail_types.specs.declared.infra_types.ends.Applies.{Applies}
use Rattle.rail_types.specs.declared.infra_types.ends.Applies.TheVariants as applies
use Rattle.rail_types.specs.declared.infra_types.ends.Direction.{Direction}
use Rattle.rail_types.specs.declared.infra_types.ends.Direction.TheVariants.{StartToStop}
use Rattle.rail_types.specs.declared.infra_types.ends.Direction.TheVariants.{StopToStart}
use Rattle.signal_blocks.specs.declared.block_cuts.lines.SpeedRange.{SpeedRange}
use Rattle.route_walk.specs.declared.walks.Stretch.{Stretch}

-- whether a limit applies in a direction
abbrev pub applies_in : Applies → Direction → Bool
applies_in applies.Both direction = true
applies_in applies.StartToStop StartToStop = true
applies_in applies.StartToStop StopToStart = false
applies_in applies.StopToStart StartToStop = false
applies_in applies.StopToStart StopToStart = true

-- whether a range shares a positive length with a stretch, in its direction
abbrev pub holds_on : Stretch → SpeedRange → Bool
holds_on stretch range =
    nat_eq range.range.track stretch.track
    && (nat_lt (max range.range.begin stretch.low) (min range.range.end stretch.high)
    && applies_in range.range.applies stretch.direction)

-- the limits of the ranges that hold on a stretch
abbrev pub limits_in : List SpeedRange → Stretch → List ℕ
limits_in ranges stretch = map (λ range. range.limit) (filter (holds_on stretch) ranges)

-- the limits of the ranges that hold on the stretches
abbrev pub limits_on : List SpeedRange → List Stretch → List ℕ
limits_on ranges stretches = flat_map (λ stretch. limits_in ranges stretch) stretches

-- the least of them, the greatest speed where there is none
abbrev pub least_limit : List SpeedRange → List Stretch → ℕ
least_limit ranges stretches = fold min MAX_SPEED_MM_S (limits_on ranges stretches)
