use Rattle.std.specs.List.{AllWithin}
use Rattle.tail_states.specs.Alike.{AreAlike}
use Rattle.path_labels.proofs.kept_courses.first_alike.Given as goal

abbrev pub invariant-loop-at : goal.invariant-loop-at
invariant-loop-at l = AllWithin (λ kept. ¬ AreAlike kept.request l.request) l.courses 0 l.at
