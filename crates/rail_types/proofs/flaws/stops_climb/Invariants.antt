use Rattle.std.proofs.Common.{◌≡◌, drop}
use Rattle.rail_types.specs.Flaws.{climbs}
use Rattle.rail_types.proofs.Ascents.{climbs_from}
use Rattle.rail_types.proofs.flaws.stops_climb.Given as goal

-- what is left decides
abbrev pub invariant-loop-stop : goal.invariant-loop-stop
invariant-loop-stop l = climbs_from l.least l.stops (drop l.stop-index l.serves) ≡ climbs l.stops l.serves
