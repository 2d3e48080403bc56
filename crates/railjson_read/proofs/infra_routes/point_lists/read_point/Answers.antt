use Rattle.rail_types.specs.InfraIds.{id_of_point, id_of_track}
use Rattle.std.proofs.Common.{subst, map}
use Rattle.serde_json.specs.View.{view}
use Rattle.json_fields.specs.Places.{FilePlace}
use Rattle.infra_fields.specs.Fields.{GivesNext}
use Rattle.railjson_read.specs.Points.{point_in}
use Rattle.railjson_read.proofs.infra_routes.point_lists.read_point.Goals as goal

pub returns-clause-read : goal.returns-clause-read
returns-clause-read c = subst (λ (p : FilePlace). GivesNext c.args.points.now c.push_point.new.points c.push_point.result (point_in p (map id_of_track c.args.tracks.now) (map id_of_point c.args.points.now) (view c.args.value.now))) c.of_element-place.ensures c.push_point.ensures.read
