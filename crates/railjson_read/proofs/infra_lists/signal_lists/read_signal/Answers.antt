use Rattle.rail_types.specs.InfraIds.{id_of_signal, id_of_track}
use Rattle.std.proofs.Common.{subst, map}
use Rattle.serde_json.specs.View.{view}
use Rattle.json_fields.specs.Places.{FilePlace}
use Rattle.infra_fields.specs.Fields.{GivesNext}
use Rattle.railjson_read.specs.Signals.{signal_in}
use Rattle.railjson_read.proofs.infra_lists.signal_lists.read_signal.Goals as goal

pub returns-clause-read : goal.returns-clause-read
returns-clause-read c = subst (λ (p : FilePlace). GivesNext c.args.signals.now c.push_signal.new.signals c.push_signal.result (signal_in p (map id_of_track c.args.tracks.now) (map id_of_signal c.args.signals.now) (view c.args.value.now))) c.of_element-place.ensures c.push_signal.ensures.read
