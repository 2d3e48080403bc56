use Rattle.std.specs.List.{AllAdjacentBelow}
use Rattle.base_file.specs.Overlaps.{Apart}
use Rattle.base_file.proofs.overlaps.first_at.Given as goal

abbrev pub invariant-pairs : goal.invariant-pairs
invariant-pairs l = AllAdjacentBelow Apart l.sorted l.next
