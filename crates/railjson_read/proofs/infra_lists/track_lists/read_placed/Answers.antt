use Rattle.rail_types.specs.InfraIds.{id_of_placed, id_of_track}
use Rattle.std.proofs.Common.{subst, map}
use Rattle.serde_json.specs.View.{view}
use Rattle.json_fields.specs.Places.{FilePlace}
use Rattle.infra_fields.specs.Fields.{GivesNext}
use Rattle.railjson_read.specs.Objects.{placed_in}
use Rattle.railjson_read.proofs.infra_lists.track_lists.read_placed.Goals as goal

pub returns-clause-read : goal.returns-clause-read
returns-clause-read c = subst (λ (p : FilePlace). GivesNext c.args.found.now c.push_placed.new.found c.push_placed.result (placed_in p (map id_of_track c.args.tracks.now) (map id_of_placed c.args.found.now) (view c.args.value.now))) c.of_element-place.ensures c.push_placed.ensures.read
