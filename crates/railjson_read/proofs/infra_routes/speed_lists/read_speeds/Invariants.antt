use Rattle.rail_types.specs.InfraIds.{id_of_speed}
use Rattle.std.proofs.Common.{◌≡◌, length, map, drop, []}
use Rattle.std.specs.Prelude.{All}
use Rattle.serde_json.specs.View.{view}
use Rattle.infra_fields.specs.Fields.{read_each}
use Rattle.rail_types.specs.Infras.{IsSpeed, lengths_of}
use Rattle.railjson_read.specs.Speeds.{speed_at}
use Rattle.railjson_read.proofs.infra_routes.speed_lists.read_speeds.Given as goal

abbrev pub invariant-objects : goal.invariant-objects
invariant-objects l = record {
  read : read_each id_of_speed (speed_at l.tracks) l.speeds (map view (drop l.value-index l.list)) ≡ read_each id_of_speed (speed_at l.tracks) [] (map view l.list);
  count : length l.speeds ≡ l.value-index;
  within : All (IsSpeed (lengths_of l.tracks)) l.speeds;
}
