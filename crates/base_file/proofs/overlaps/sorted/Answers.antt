use Rattle.std.proofs.Common.{rules}
use Rattle.std.proofs.lemmas.List.Sorted.{answers_always}
use Rattle.base_file.specs.Overlaps.{comes_first}
use Rattle.base_file.proofs.Moved.{in_order, is_order}
use Rattle.base_file.proofs.overlaps.sorted.Goals as goal

pub returns-clause-order : goal.returns-clause-order
returns-clause-order c = in_order _ (c.in_ok-sort_by.ensures.sorted comes_first is_order (answers_always _ _ _ (λ f a r g h. search rules)))
