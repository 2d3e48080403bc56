use Rattle.std.proofs.Common.{arith, refl, subst, sym, length, All}
use Rattle.std.specs.Prelude.{pos}
use Rattle.std.proofs.lemmas.Int.{ints, clamps}
use Rattle.free_windows.specs.Starts.{IsPiece}
use Rattle.label_search.proofs.Shutting.{shut_by}
use Rattle.label_search.proofs.endings.is_never_free.Goals as goal

pub next_start-requires-clause-pieces : goal.next_start-requires-clause-pieces
next_start-requires-clause-pieces c = subst (All (IsPiece (length c.args.book.now))) (sym c.as_slice.ensures) c.requires.pieces

pub next_start-requires-clause-within : goal.next_start-requires-clause-within
next_start-requires-clause-within c =
    let first = c.by_the_horizon-going.ensures.from in
    let from = c.arriving-enters.ensures.from in let to = c.arriving-enters.ensures.to in
    let near = c.requires.arrive in let high = near.1.1 in
    let short = c.requires.run in let low = short.0 in
    (omega (arith, ints, clamps), omega (arith, ints, clamps))

pub returns-in_default : goal.returns-in_default
returns-in_default c holds =
    shut_by c.args.way.now c.args.book.now c.args.trip.now (pos c.args.horizon) c.by_the_horizon-going.result c.arriving-enters.result c.as_slice.result.now c.as_slice.ensures
    c.by_the_horizon-going.ensures.from c.by_the_horizon-going.ensures.to c.arriving-enters.ensures.from c.arriving-enters.ensures.to (c.in_default.ensures.none refl)
