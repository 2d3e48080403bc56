use Rattle.rail_types.specs.InfraIds.{id_of_placed, id_of_track}
use Rattle.std.proofs.Common.{◌≡◌, length, map, drop, []}
use Rattle.std.specs.Prelude.{All}
use Rattle.serde_json.specs.View.{view}
use Rattle.infra_fields.specs.Fields.{read_each}
use Rattle.rail_types.specs.Infras.{IsPlaced}
use Rattle.railjson_read.specs.Objects.{placed_at}
use Rattle.railjson_read.proofs.infra_lists.track_lists.read_all_placed.Given as goal

abbrev pub invariant-objects : goal.invariant-objects
invariant-objects l = record {
  read : read_each id_of_placed (placed_at l.name (map id_of_track l.tracks)) l.found (map view (drop l.value-index l.list)) ≡ read_each id_of_placed (placed_at l.name (map id_of_track l.tracks)) [] (map view l.list);
  count : length l.found ≡ l.value-index;
  within : All (IsPlaced (length l.tracks)) l.found;
}
