use Rattle.std.specs.List.{AllWithin}
use Rattle.occupation_book.specs.Held.{held}
use Rattle.refusal_proof.specs.Inside.{MovePasses}
use Rattle.refusal_proof.proofs.checks.moves_pass.Given as goal

abbrev pub invariant-loop-one : goal.invariant-loop-one
invariant-loop-one l = AllWithin (MovePasses l.net l.settings l.request (held l.book) l.labels l.onward.going.now l.onward.place.now) l.moves 0 l.one-index
