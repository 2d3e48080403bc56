use Rattle.std.proofs.Common.{length}
use Rattle.std.proofs.lemmas.List.Elements.{All-push}
use Rattle.rail_types.specs.Named.{IsId}
use Rattle.rail_types.specs.declared.infra_types.routes.Route.{Route}
use Rattle.rail_types.specs.Infras.{IsRoute}
use Rattle.railjson_read.proofs.infra_routes.route_lists.push_route.Goals as goal

pub returns-clause-within : goal.returns-clause-within
returns-clause-within c = rw c.in_ok-push.ensures.ok (All-push (IsRoute (length c.args.switches.now) (length c.args.detectors.now) (length c.args.buffer_stops.now)) c.args.routes.now c.in_ok-route.route c.requires.within c.in_ok-route.ensures.within)

pub returns-clause-named : goal.returns-clause-named
returns-clause-named c = rw c.in_ok-push.ensures.ok (All-push (λ (route : Route). IsId route.id) c.args.routes.now c.in_ok-route.route c.requires.named (rw c.in_ok-route.ensures.id c.in_ok-id.ensures.named))
