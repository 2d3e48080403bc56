use Rattle.std.specs.Prelude.{ℕ, ◌<◌, length}
use Rattle.label_search.specs.Paths.{place_at}
use Rattle.label_search.specs.Limits.{IsBound}
use Rattle.label_search.proofs.bounding.are_bounds.Given as goal

abbrev pub invariant-loop-place : goal.invariant-loop-place
invariant-loop-place l = (place number : ℕ) → place < l.place → number < length (place_at l.plan place).moves → IsBound l.plan l.ahead place number
