use Rattle.path_labels.proofs.KeepingNears.{AreFirstNear}
use Rattle.path_labels.proofs.kept_nears.numbers_found.Given as goal

abbrev pub invariant-loop-call : goal.invariant-loop-call
invariant-loop-call l = AreFirstNear l.kept l.calls l.call-index l.numbers.items
