use Rattle.std.proofs.Common.{length}
use Rattle.std.proofs.lemmas.List.Elements.{All-push}
use Rattle.rail_types.specs.Infras.{IsSignal}
use Rattle.railjson_read.proofs.infra_lists.signal_lists.push_signal.Goals as goal

pub returns-clause-within : goal.returns-clause-within
returns-clause-within c = rw c.in_ok-push.ensures.ok (All-push (IsSignal (length c.args.tracks.now)) c.args.signals.now c.in_ok-signal.signal c.requires.within c.in_ok-signal.ensures.within)
