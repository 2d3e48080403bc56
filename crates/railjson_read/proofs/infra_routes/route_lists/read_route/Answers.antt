use Rattle.rail_types.specs.InfraIds.{id_of_placed, id_of_route, id_of_switch}
use Rattle.std.proofs.Common.{subst, map}
use Rattle.serde_json.specs.View.{view}
use Rattle.json_fields.specs.Places.{FilePlace}
use Rattle.infra_fields.specs.Fields.{GivesNext}
use Rattle.railjson_read.specs.Routes.{route_in}
use Rattle.railjson_read.proofs.infra_routes.route_lists.read_route.Goals as goal

pub returns-clause-read : goal.returns-clause-read
returns-clause-read c = subst (λ (p : FilePlace). GivesNext c.args.routes.now c.push_route.new.routes c.push_route.result (route_in p (map id_of_switch c.args.switches.now) (map id_of_placed c.args.detectors.now) (map id_of_placed c.args.buffer_stops.now) (map id_of_route c.args.routes.now) (view c.args.value.now))) c.of_element-place.ensures c.push_route.ensures.read
