use Rattle.std.proofs.Common.{ℕ, ◌<◌, get_or}
use Rattle.command_line.specs.Clients.{AreApart}
use Rattle.command_line.specs.declared.client_words.clients.ClientWord.{ClientWord}
use Rattle.command_line.proofs.client_words.distinct.is_apart_from.Given as goal

abbrev pub invariant-loop-other : goal.invariant-loop-other
invariant-loop-other l = (k : ℕ) (d : ClientWord) → k < l.other-index → AreApart l.one (get_or l.others k d)
