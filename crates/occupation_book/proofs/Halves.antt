-- What one end says of those before it and of those behind it, where ends are in order.
use Rattle.std.proofs.Common.{◌≡◌, ℕ, ◌<◌, ◌<ℤ◌, ◌≤ℤ◌, ℤ, pos, List, length, get_or, subst, inl, inr, arith, AllPairs}
use Rattle.std.specs.List.{AllWithin}
use Rattle.std.proofs.lemmas.Bool.{cases_order}
use Rattle.std.proofs.lemmas.Int.{ints}
use Rattle.std.proofs.lemmas.List.{get_or_default}

module _ (ends : List ℤ) (tick : ℤ) (order : AllPairs (λ one later. one ≤ℤ later) ends) (at : ℕ) (within : at < length ends) where
  -- those before one that comes by a tick come by it
  pub ended_before : get_or ends at (pos 0) ≤ℤ tick → AllWithin (λ end. end ≤ℤ tick) ends 0 at
  ended_before is_ended k other low high =
      let pair = order k at other high within in
      let same : get_or ends at (pos 0) ≡ get_or ends at other = get_or_default ends at (pos 0) other within in
      omega (arith, ints)

  -- one that comes behind a tick, and those behind it, come behind the tick
  pub later_from : tick <ℤ get_or ends at (pos 0) → AllWithin (λ end. tick <ℤ end) ends at (length ends)
  later_from is_late k other low high =
      let same : get_or ends at (pos 0) ≡ get_or ends at other = get_or_default ends at (pos 0) other within in
      elim (cases_order at k) [
        | inl here ↦ subst (λ n. tick <ℤ get_or ends n other) here (omega (arith, ints))
        | inr apart ↦ elim apart [
          | inl behind ↦ let pair = order at k other behind high in omega (arith, ints)
          | inr ahead ↦ absurd (omega arith)
        ]
      ]
