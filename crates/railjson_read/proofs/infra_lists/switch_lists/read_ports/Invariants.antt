use Rattle.rail_types.specs.InfraIds.{id_of_track}
use Rattle.std.proofs.Common.{◌≡◌, ◌<◌, length, map, drop, []}
use Rattle.std.specs.Prelude.{All}
use Rattle.serde_json.specs.View.{view}
use Rattle.railjson_read.specs.Objects.{read_ports}
use Rattle.railjson_read.proofs.infra_lists.switch_lists.read_ports.Given as goal

abbrev pub invariant-ports : goal.invariant-ports
invariant-ports l = record {
  read : read_ports l.place (map id_of_track l.tracks) (view l.value) l.ports (drop l.name-index l.names) ≡ read_ports l.place (map id_of_track l.tracks) (view l.value) [] l.names;
  count : length l.ports ≡ l.name-index;
  within : All (λ port. port.track < length l.tracks) l.ports;
}
