use Rattle.std.specs.Prelude.{take}
use Rattle.label_search.specs.Labels.{AreJoined}
use Rattle.label_search.proofs.labels.merged.Given as goal

abbrev pub invariant-loop-number : goal.invariant-loop-number
invariant-loop-number l = AreJoined (take l.number l.parts) l.fronts.items l.current
