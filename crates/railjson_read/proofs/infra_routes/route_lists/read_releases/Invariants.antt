use Rattle.rail_types.specs.InfraIds.{id_of_placed}
use Rattle.std.proofs.Common.{◌≡◌, length, map, drop, []}
use Rattle.std.specs.Prelude.{All, ◌<◌}
use Rattle.serde_json.specs.View.{view}
use Rattle.infra_fields.specs.Fields.{read_items}
use Rattle.railjson_read.specs.Routes.{release_at}
use Rattle.railjson_read.proofs.infra_routes.route_lists.read_releases.Given as goal

abbrev pub invariant-items : goal.invariant-items
invariant-items l = record {
  read : read_items (release_at l.place (map id_of_placed l.detectors)) l.releases (map view (drop l.item-index l.items)) ≡ read_items (release_at l.place (map id_of_placed l.detectors)) [] (map view l.items);
  count : length l.releases ≡ l.item-index;
  within : All (λ release. release < length l.detectors) l.releases;
}
