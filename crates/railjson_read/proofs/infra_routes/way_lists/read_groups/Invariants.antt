use Rattle.rail_types.specs.InfraIds.{id_of_switch}
use Rattle.std.proofs.Common.{◌≡◌, length, map, []}
use Rattle.std.specs.Prelude.{All, ◌<◌}
use Rattle.serde_json.specs.View.{members_view}
use Rattle.railjson_read.specs.Routes.{read_ways}
use Rattle.railjson_read.proofs.infra_routes.way_lists.read_groups.Given as goal

abbrev pub invariant-members : goal.invariant-members
invariant-members l = record {
  read : read_ways l.place (map id_of_switch l.switches) l.groups.entries (members_view l.key-iterator) ≡ read_ways l.place (map id_of_switch l.switches) [] (members_view l.members.entries);
  within : All (λ entry. entry.0 < length l.switches) l.groups.entries;
}
