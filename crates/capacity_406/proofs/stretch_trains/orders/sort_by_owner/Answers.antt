use Rattle.std.proofs.Common.{rules, of_calls}
use Rattle.std.proofs.lemmas.Fn.{always_returns_same}
use Rattle.rail_types.specs.Occupation.{HeldClaim}
use Rattle.capacity_406.specs.InsideStretch.{key_of}
use Rattle.capacity_406.proofs.Sorting.{sorted_by_owner}
use Rattle.capacity_406.proofs.stretch_trains.orders.sort_by_owner.Goals as goal

pub returns-clause-sorted : goal.returns-clause-sorted
returns-clause-sorted c = sorted_by_owner c.sort_unstable_by_key.new.self.items (c.sort_unstable_by_key.ensures.sorted (λ (one : HeldClaim). key_of one.1) (always_returns_same _ _ _ (λ a r f k. search (rules, of_calls))))
