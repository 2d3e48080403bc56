-- With which entry a train may run through a block.
use Rattle.std.specs.Prelude.{◌≤◌}
use Rattle.rail_types.specs.declared.limits.TheConstants.{MAX_SPEED_MM_S}
use Rattle.running_time.specs.declared.edges.Enter.{Enter}
use Rattle.running_time.specs.declared.edges.Enter.TheVariants.{Still, From}

-- from stand, or from a block through which it rolled at a speed that a train may have
abbrev pub IsEnterWithinLimits : Enter → Type 0
IsEnterWithinLimits Still = Unit {0}
IsEnterWithinLimits (From speed) = (1 ≤ speed) × (speed ≤ MAX_SPEED_MM_S)
