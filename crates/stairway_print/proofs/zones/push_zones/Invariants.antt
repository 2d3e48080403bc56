use Rattle.std.proofs.Common.{◌≡◌, ◌++◌, drop}
use Rattle.stairway_print.specs.Networks.{zone_lines}
use Rattle.stairway_print.proofs.zones.push_zones.Given as goal

abbrev pub invariant-zones : goal.invariant-zones
invariant-zones l = record {
  text : l.to.items ++ zone_lines l.number (drop l.zone-index l.zones) ≡ l.fn.to.items ++ zone_lines 0 l.zones;
  count : l.number ≡ l.zone-index;
}
