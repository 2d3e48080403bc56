use Rattle.rail_types.specs.InfraIds.{id_of_track}
use Rattle.std.proofs.Common.{subst, map}
use Rattle.serde_json.specs.View.{view}
use Rattle.json_fields.specs.Places.{FilePlace}
use Rattle.infra_fields.specs.Fields.{GivesNext}
use Rattle.railjson_read.specs.Objects.{track_in}
use Rattle.railjson_read.proofs.infra_lists.track_lists.read_track.Goals as goal

pub returns-clause-read : goal.returns-clause-read
returns-clause-read c = subst (λ (p : FilePlace). GivesNext c.args.tracks.now c.push_track.new.tracks c.push_track.result (track_in p (map id_of_track c.args.tracks.now) (view c.args.value.now))) c.of_element-place.ensures c.push_track.ensures.read
