use Rattle.rail_types.specs.InfraIds.{id_of_placed}
use Rattle.std.proofs.Common.{subst, map}
use Rattle.serde_json.specs.View.{view}
use Rattle.json_fields.specs.Places.{FilePlace}
use Rattle.infra_fields.specs.Fields.{Gives}
use Rattle.railjson_read.specs.Routes.{release_in}
use Rattle.railjson_read.proofs.infra_routes.route_lists.release_at.Goals as goal

pub returns-clause-read : goal.returns-clause-read
returns-clause-read c = subst (λ (p : FilePlace). Gives (λ found. found) c.release_in.result (release_in p (map id_of_placed c.args.detectors.now) (view c.args.value.now))) c.item-at.ensures c.release_in.ensures.read
