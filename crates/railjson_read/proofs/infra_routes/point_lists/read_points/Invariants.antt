use Rattle.rail_types.specs.InfraIds.{id_of_point, id_of_track}
use Rattle.std.proofs.Common.{◌≡◌, length, map, drop, []}
use Rattle.std.specs.Prelude.{All}
use Rattle.serde_json.specs.View.{view}
use Rattle.rail_types.specs.Named.{IsId}
use Rattle.infra_fields.specs.Fields.{read_each}
use Rattle.rail_types.specs.Infras.{IsPoint}
use Rattle.railjson_read.specs.Points.{point_at}
use Rattle.railjson_read.proofs.infra_routes.point_lists.read_points.Given as goal

abbrev pub invariant-objects : goal.invariant-objects
invariant-objects l = record {
  read : read_each id_of_point (point_at (map id_of_track l.tracks)) l.points (map view (drop l.value-index l.list)) ≡ read_each id_of_point (point_at (map id_of_track l.tracks)) [] (map view l.list);
  count : length l.points ≡ l.value-index;
  within : All (IsPoint (length l.tracks)) l.points;
  named : All (λ point. IsId point.id) l.points;
}
