use Rattle.rail_types.specs.InfraIds.{id_of_track}
use Rattle.std.proofs.Common.{subst, map}
use Rattle.serde_json.specs.View.{view}
use Rattle.json_fields.specs.Places.{FilePlace}
use Rattle.infra_fields.specs.Fields.{Gives}
use Rattle.railjson_read.specs.Points.{part_in}
use Rattle.railjson_read.proofs.infra_routes.point_lists.part_at.Goals as goal

pub returns-clause-read : goal.returns-clause-read
returns-clause-read c = subst (λ (p : FilePlace). Gives (λ found. found) c.part_in.result (part_in p (map id_of_track c.args.tracks.now) (view c.args.value.now))) c.item-at.ensures c.part_in.ensures.read
