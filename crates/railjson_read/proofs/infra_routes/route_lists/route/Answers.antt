use Rattle.railjson_read.proofs.infra_routes.route_lists.route.Goals as goal

pub returns-clause-within : goal.returns-clause-within
returns-clause-within c = record {
  entry = c.in_ok-entry.ensures.within;
  exit = c.in_ok-exit.ensures.within;
  ways = c.in_ok-ways.ensures.within;
  releases = c.in_ok-releases.ensures.within;
  count = c.in_ok-releases.ensures.count;
}
