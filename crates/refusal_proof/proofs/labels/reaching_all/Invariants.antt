use Rattle.refusal_proof.proofs.Numbering.{AreReaching}
use Rattle.refusal_proof.proofs.labels.reaching_all.Given as goal

abbrev pub invariant-loop-label : goal.invariant-loop-label
invariant-loop-label l = AreReaching l.sorted l.label-index l.labels.items
