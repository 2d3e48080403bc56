use Rattle.std.specs.List.{AllWithin}
use Rattle.refusal_proof.specs.Proofs.{claims_held}
use Rattle.refusal_proof.specs.Inside.{LabelPasses}
use Rattle.refusal_proof.proofs.checks.labels_pass.Given as goal

abbrev pub invariant-loop-label : goal.invariant-loop-label
invariant-loop-label l = AllWithin (LabelPasses l.net l.settings l.request (claims_held l.book) l.places.members l.labels) l.labels 0 l.label-index
