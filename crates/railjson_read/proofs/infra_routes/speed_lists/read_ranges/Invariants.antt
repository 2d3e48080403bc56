use Rattle.std.proofs.Common.{◌≡◌, length, map, drop, []}
use Rattle.std.specs.Prelude.{All}
use Rattle.serde_json.specs.View.{view}
use Rattle.infra_fields.specs.Fields.{read_items}
use Rattle.rail_types.specs.Infras.{IsRange, lengths_of}
use Rattle.railjson_read.specs.Speeds.{range_at}
use Rattle.railjson_read.proofs.infra_routes.speed_lists.read_ranges.Given as goal

abbrev pub invariant-items : goal.invariant-items
invariant-items l = record {
  read : read_items (range_at l.place l.tracks) l.ranges (map view (drop l.item-index l.items)) ≡ read_items (range_at l.place l.tracks) [] (map view l.items);
  count : length l.ranges ≡ l.item-index;
  within : All (IsRange (lengths_of l.tracks)) l.ranges;
}
