use Rattle.std.specs.Prelude.{ℕ, ◌<◌}
use Rattle.label_search.specs.Limits.{IsBound}
use Rattle.label_search.proofs.bounding.is_bound.Given as goal

abbrev pub invariant-loop-number : goal.invariant-loop-number
invariant-loop-number l = (number : ℕ) → number < l.number → IsBound l.plan l.ahead l.place number
