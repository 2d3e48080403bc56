use Rattle.std.proofs.Common.{◌≡◌, map, drop}
use Rattle.serde_json.specs.View.{view}
use Rattle.base_file.specs.Claims.{none_planned, read_trains}
use Rattle.base_file.specs.Sound.{ArePlanned}
use Rattle.base_file.proofs.trains.read_all.Given as goal

abbrev pub invariant-trains : goal.invariant-trains
invariant-trains l = record {
  read : read_trains l.zones l.planned (map view (drop l.value-index l.items)) ≡ read_trains l.zones none_planned (map view l.items);
  count : l.planned.trains ≡ l.value-index;
  sound : ArePlanned l.zones l.planned;
}
