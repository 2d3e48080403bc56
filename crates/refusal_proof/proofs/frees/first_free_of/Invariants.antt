use Rattle.std.specs.Prelude.{◌≡◌, ℤ, ◌≤ℤ◌, ◌<ℤ◌, ◌+ℤ◌, pos}
use Rattle.std.specs.Int.{int_gap}
use Rattle.occupation_book.specs.Held.{IsFree, held}
use Rattle.refusal_proof.specs.Inside.{later}
use Rattle.refusal_proof.proofs.frees.first_free_of.Given as goal

abbrev pub invariant-loop-rest : goal.invariant-loop-rest
invariant-loop-rest l = record {
  from : l.window.from ≤ℤ l.rest.from;
  to : l.rest.to ≡ l.window.to;
  before : (tick : ℤ) → l.window.from ≤ℤ tick → tick <ℤ l.rest.from → ¬ IsFree (held l.book) (later tick l.claim);
}

abbrev pub decreases-loop-rest : goal.decreases-loop-rest
decreases-loop-rest l = int_gap l.rest.from (l.window.to +ℤ pos 1)
