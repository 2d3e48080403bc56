use Rattle.std.proofs.Common.{◌≡◌, ◌++◌}
use Rattle.railjson_read.specs.Routes.{ways_of}
use Rattle.railjson_read.proofs.infra_routes.way_lists.ways_of.Given as goal

abbrev pub invariant-groups : goal.invariant-groups
invariant-groups l = l.ways ++ ways_of l.switch-iterator ≡ ways_of l.groups.entries
