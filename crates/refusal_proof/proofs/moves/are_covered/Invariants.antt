use Rattle.std.specs.Prelude.{◌≡◌, ℤ, ◌≤ℤ◌, ◌<ℤ◌, ◌+ℤ◌, pos}
use Rattle.std.specs.Int.{int_gap}
use Rattle.occupation_book.specs.Held.{held}
use Rattle.refusal_proof.specs.Inside.{AreFreeAt, IsCovered}
use Rattle.refusal_proof.proofs.moves.are_covered.Given as goal

abbrev pub invariant-loop-free : goal.invariant-loop-free
invariant-loop-free l = record {
  from : l.enters.from ≤ℤ l.rest.from;
  to : l.rest.to ≡ l.enters.to;
  before : (enter : ℤ) → l.enters.from ≤ℤ enter → enter <ℤ l.rest.from → AreFreeAt (held l.book) l.claims enter → IsCovered l.labels l.number (enter +ℤ l.taking.ticks);
}

abbrev pub decreases-loop-free : goal.decreases-loop-free
decreases-loop-free l = int_gap l.rest.from (l.enters.to +ℤ pos 1)
