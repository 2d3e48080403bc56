use Rattle.std.proofs.Common.{arith, inl, inr, refl, subst, sym}
use Rattle.std.proofs.lemmas.Int.{ints, clamps}
use Rattle.label_search.specs.Search.{IsOneOf}
use Rattle.label_search.proofs.searches.better.Goals as goal

pub returns-clause-beaten : goal.returns-clause-beaten
returns-clause-beaten c leave held aimed =
    let from = c.shared-arrive.ensures.from in let low = held.0 in let soon = aimed.0 in
    c.earlier.ensures.beaten leave (omega (arith, ints, clamps))

pub returns-clause-one : goal.returns-clause-one
returns-clause-one c =
    let from = c.shared-arrive.ensures.from in let to = c.shared-arrive.ensures.to in
    let some = c.if-arrive.false in
    elim c.earlier.ensures.one [
      | inl same ↦ inl same
      | inr is ↦ inr (subst (IsOneOf c.args.trip.now c.args.ending.now) (sym is)
          (refl, refl, refl, (omega (arith, ints, clamps), omega (arith, ints, clamps)), (omega (arith, ints, clamps), omega (arith, ints, clamps))))
    ]
