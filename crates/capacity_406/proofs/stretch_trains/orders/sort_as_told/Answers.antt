use Rattle.std.proofs.Common.{rules, of_calls}
use Rattle.std.proofs.lemmas.Fn.{always_returns_same}
use Rattle.capacity_406.specs.declared.stretch_trains.groups.Standing.{Standing}
use Rattle.capacity_406.specs.InsideStretch.{key_of}
use Rattle.capacity_406.proofs.Sorting.{sorted_as_told}
use Rattle.capacity_406.proofs.stretch_trains.orders.sort_as_told.Goals as goal

pub returns-clause-sorted : goal.returns-clause-sorted
returns-clause-sorted c = sorted_as_told c.sort_unstable_by_key.new.self.items (c.sort_unstable_by_key.ensures.sorted (λ (one : Standing). (one.first.span.from, key_of one.owner)) (always_returns_same _ _ _ (λ a r f k. search (rules, of_calls))))
