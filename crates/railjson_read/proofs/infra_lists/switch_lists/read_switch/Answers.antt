use Rattle.rail_types.specs.InfraIds.{id_of_switch, id_of_track}
use Rattle.std.proofs.Common.{subst, map}
use Rattle.serde_json.specs.View.{view}
use Rattle.json_fields.specs.Places.{FilePlace}
use Rattle.infra_fields.specs.Fields.{GivesNext}
use Rattle.railjson_read.specs.Objects.{switch_in}
use Rattle.railjson_read.proofs.infra_lists.switch_lists.read_switch.Goals as goal

pub returns-clause-read : goal.returns-clause-read
returns-clause-read c = subst (λ (p : FilePlace). GivesNext c.args.switches.now c.push_switch.new.switches c.push_switch.result (switch_in p (map id_of_track c.args.tracks.now) (map id_of_switch c.args.switches.now) (view c.args.value.now))) c.of_element-place.ensures c.push_switch.ensures.read
