use Rattle.std.proofs.Common.{length}
use Rattle.railjson_read.proofs.Ways.{are_ways}
use Rattle.railjson_read.proofs.infra_routes.way_lists.ways_in.Goals as goal

pub returns-clause-within : goal.returns-clause-within
returns-clause-within c = rw c.in_ok-ways.ensures.ways (are_ways (length c.args.switches.now) c.in_ok-groups.groups.entries c.in_ok-groups.ensures.within c.in_ok-ways.ensures.ordered)
