use Rattle.std.proofs.Common.{subst}
use Rattle.serde_json.specs.View.{view}
use Rattle.json_fields.specs.Places.{FilePlace}
use Rattle.infra_fields.specs.Fields.{Gives}
use Rattle.railjson_read.specs.Speeds.{range_in}
use Rattle.railjson_read.proofs.infra_routes.speed_lists.range_at.Goals as goal

pub returns-clause-read : goal.returns-clause-read
returns-clause-read c = subst (λ (p : FilePlace). Gives (λ found. found) c.range_in.result (range_in p c.args.tracks.now (view c.args.value.now))) c.item-at.ensures c.range_in.ensures.read
