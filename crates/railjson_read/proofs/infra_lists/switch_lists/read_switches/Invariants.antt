use Rattle.rail_types.specs.InfraIds.{id_of_switch, id_of_track}
use Rattle.std.proofs.Common.{◌≡◌, length, map, drop, []}
use Rattle.std.specs.Prelude.{All}
use Rattle.serde_json.specs.View.{view}
use Rattle.infra_fields.specs.Fields.{read_each}
use Rattle.rail_types.specs.Infras.{IsSwitch}
use Rattle.railjson_read.specs.Objects.{switch_at}
use Rattle.railjson_read.proofs.infra_lists.switch_lists.read_switches.Given as goal

abbrev pub invariant-objects : goal.invariant-objects
invariant-objects l = record {
  read : read_each id_of_switch (switch_at (map id_of_track l.tracks)) l.switches (map view (drop l.value-index l.list)) ≡ read_each id_of_switch (switch_at (map id_of_track l.tracks)) [] (map view l.list);
  count : length l.switches ≡ l.value-index;
  within : All (IsSwitch (length l.tracks)) l.switches;
}
