use Rattle.std.specs.Prelude.{◌+◌, ◌*◌, ◌-◌, ◌+ℤ◌, pos, length}
use Rattle.std.specs.Int.{int_gap}
use Rattle.occupation_book.specs.Held.{held}
use Rattle.refusal_proof.proofs.Rounds.{IsRound}
use Rattle.refusal_proof.proofs.frees.first_free.Given as goal

abbrev pub invariant-loop-known : goal.invariant-loop-known
invariant-loop-known l = IsRound (held l.book) l.claims l.window l.rest l.known l.at

abbrev pub decreases-loop-known : goal.decreases-loop-known
decreases-loop-known l = int_gap l.rest.from (l.window.to +ℤ pos 1) * (length l.claims + 1) + (length l.claims - l.known)
