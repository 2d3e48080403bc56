-- What the claim at a place says of those before it and of those behind it.
use Rattle.std.proofs.Common.{ℕ, ◌+◌, ◌<◌, ◌<ℤ◌, ◌≤ℤ◌, ℤ, List, length, get_or, sym, subst, inl, inr, arith}
use Rattle.std.specs.List.{AllWithin, HoldsAt}
use Rattle.std.proofs.lemmas.Bool.{cases_eq}
use Rattle.std.proofs.lemmas.Int.{ints}
use Rattle.rail_types.specs.Occupation.{HeldClaim}
use Rattle.occupation_book.specs.Held.{AreInOrder}

module _ (zone : ℕ) (kept : List HeldClaim) (tick : ℤ) (order : AreInOrder zone kept) (at : ℕ) (within : at < length kept) where
  -- those before one that has ended by a tick have
  pub ended_to : HoldsAt (λ one. one.0.span.to ≤ℤ tick) kept at → AllWithin (λ one. one.0.span.to ≤ℤ tick) kept 0 (at + 1)
  ended_to ended k other low high = elim (cases_eq k at) [
    | inl same ↦ subst (λ n. (get_or kept n other).0.span.to ≤ℤ tick) (sym same) (ended other)
    | inr differs ↦
        let sorted = order.sorted k at other (omega arith) within in
        let lasts = order.ticks at other within in
        let last = ended other in
        omega (arith, ints)
  ]

  -- one that ends behind a tick, and those behind it, do
  pub late_from : HoldsAt (λ one. tick <ℤ one.0.span.to) kept at → AllWithin (λ one. tick <ℤ one.0.span.to) kept at (length kept)
  late_from late k other low high = elim (cases_eq k at) [
    | inl same ↦ subst (λ n. tick <ℤ (get_or kept n other).0.span.to) (sym same) (late other)
    | inr differs ↦
        let sorted = order.sorted at k other (omega arith) high in
        let lasts = order.ticks k other high in
        let first = late other in
        omega (arith, ints)
  ]
