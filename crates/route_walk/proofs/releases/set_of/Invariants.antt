use Rattle.std.proofs.Common.{◌≡◌, ℕ, take}
use Rattle.route_walk.specs.Releases.{has}
use Rattle.route_walk.proofs.releases.set_of.Given as goal

abbrev pub invariant-numbers : goal.invariant-numbers
invariant-numbers l = (number : ℕ) → has l.set.keys number ≡ has (take l.number-index l.numbers) number
