use Rattle.rail_types.specs.InfraIds.{id_of_track}
use Rattle.std.proofs.Common.{◌≡◌, length, map, drop, []}
use Rattle.std.specs.Prelude.{All, ◌<◌}
use Rattle.serde_json.specs.View.{view}
use Rattle.infra_fields.specs.Fields.{read_items}
use Rattle.railjson_read.specs.Points.{part_at}
use Rattle.railjson_read.proofs.infra_routes.point_lists.read_parts.Given as goal

abbrev pub invariant-items : goal.invariant-items
invariant-items l = record {
  read : read_items (part_at l.place (map id_of_track l.tracks)) l.parts (map view (drop l.item-index l.items)) ≡ read_items (part_at l.place (map id_of_track l.tracks)) [] (map view l.items);
  count : length l.parts ≡ l.item-index;
  within : All (λ part. part.track < length l.tracks) l.parts;
}
