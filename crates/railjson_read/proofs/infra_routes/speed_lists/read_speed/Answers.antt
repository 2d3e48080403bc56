use Rattle.rail_types.specs.InfraIds.{id_of_speed}
use Rattle.std.proofs.Common.{subst, map}
use Rattle.serde_json.specs.View.{view}
use Rattle.json_fields.specs.Places.{FilePlace}
use Rattle.infra_fields.specs.Fields.{GivesNext}
use Rattle.railjson_read.specs.Speeds.{speed_in}
use Rattle.railjson_read.proofs.infra_routes.speed_lists.read_speed.Goals as goal

pub returns-clause-read : goal.returns-clause-read
returns-clause-read c = subst (λ (p : FilePlace). GivesNext c.args.speeds.now c.push_speed.new.speeds c.push_speed.result (speed_in p c.args.tracks.now (map id_of_speed c.args.speeds.now) (view c.args.value.now))) c.of_element-place.ensures c.push_speed.ensures.read
