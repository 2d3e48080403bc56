use Rattle.rail_types.specs.InfraIds.{id_of_placed, id_of_route, id_of_switch}
use Rattle.std.proofs.Common.{◌≡◌, length, map, drop, []}
use Rattle.std.specs.Prelude.{All}
use Rattle.serde_json.specs.View.{view}
use Rattle.rail_types.specs.Named.{IsId}
use Rattle.infra_fields.specs.Fields.{read_each}
use Rattle.rail_types.specs.Infras.{IsRoute}
use Rattle.railjson_read.specs.Routes.{route_at}
use Rattle.railjson_read.proofs.infra_routes.route_lists.read_routes.Given as goal

abbrev pub invariant-objects : goal.invariant-objects
invariant-objects l = record {
  read : read_each id_of_route (route_at (map id_of_switch l.switches) (map id_of_placed l.detectors) (map id_of_placed l.buffer_stops)) l.routes (map view (drop l.value-index l.list)) ≡ read_each id_of_route (route_at (map id_of_switch l.switches) (map id_of_placed l.detectors) (map id_of_placed l.buffer_stops)) [] (map view l.list);
  count : length l.routes ≡ l.value-index;
  within : All (IsRoute (length l.switches) (length l.detectors) (length l.buffer_stops)) l.routes;
  named : All (λ route. IsId route.id) l.routes;
}
