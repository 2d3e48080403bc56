use Rattle.std.proofs.Common.{length}
use Rattle.std.proofs.lemmas.List.Elements.{All-push}
use Rattle.rail_types.specs.Infras.{IsSwitch}
use Rattle.railjson_read.proofs.infra_lists.switch_lists.push_switch.Goals as goal

pub returns-clause-within : goal.returns-clause-within
returns-clause-within c = rw c.in_ok-push.ensures.ok (All-push (IsSwitch (length c.args.tracks.now)) c.args.switches.now c.in_ok-switch.switch c.requires.within c.in_ok-switch.ensures.within)
