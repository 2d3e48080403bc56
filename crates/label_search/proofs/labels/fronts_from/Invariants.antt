use Rattle.label_search.specs.Labels.{AreFronts}
use Rattle.label_search.proofs.labels.fronts_from.Given as goal

abbrev pub invariant-loop-number : goal.invariant-loop-number
invariant-loop-number l = AreFronts l.labels l.from l.number l.fronts.items
