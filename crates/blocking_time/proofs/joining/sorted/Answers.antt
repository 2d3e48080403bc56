use Rattle.std.proofs.Common.{rules}
use Rattle.std.proofs.lemmas.List.Sorted.{answers_always}
use Rattle.blocking_time.specs.Joined.{comes_first}
use Rattle.blocking_time.proofs.Unions.{is_order, by_begin}
use Rattle.blocking_time.proofs.joining.sorted.Goals as goal

pub returns-clause-order : goal.returns-clause-order
returns-clause-order c = by_begin _ (c.in_ok-sort_by.ensures.sorted comes_first is_order (answers_always _ _ _ (λ f a r g h. search rules)))
