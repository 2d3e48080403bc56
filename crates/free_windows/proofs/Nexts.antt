-- The first free ticks, for the claim at a place of a list.
use Rattle.std.proofs.Common.{◌≡◌, ℕ, ◌<◌, List, length, get_or, subst, inl, inr, refl}
use Rattle.std.specs.Prelude.{ℤ, ◌↔◌}
use Rattle.std.specs.List.{HoldsAt}
use Rattle.std.proofs.lemmas.List.{get_or_default}
use Rattle.rail_types.specs.declared.paths.Claim.{Claim}
use Rattle.rail_types.specs.declared.paths.Window.{Window}
use Rattle.rail_types.specs.Occupation.{HeldClaim}
use Rattle.occupation_book.specs.Held.{IsFree}
use Rattle.free_windows.specs.Free.{Holds, IsFreeOf, moved}
use Rattle.free_windows.specs.Starts.{IsNextWindow}

-- where the test of freedom says the same, so do the first free ticks
pub next_of_same : (IsSo OrSo : ℤ → Type 0) (within ticks : Window) → ((tick : ℤ) → IsSo tick → OrSo tick) → ((tick : ℤ) → OrSo tick → IsSo tick) → IsNextWindow IsSo within ticks → IsNextWindow OrSo within ticks
next_of_same IsSo OrSo within ticks there back next = record {
  from = next.from;
  ticks = next.ticks;
  to = next.to;
  before = λ tick low early so. next.before tick low early (back tick so);
  so = λ tick held. there tick (next.so tick held);
  ends = elim next.ends [ inl same ↦ inl same | inr stops ↦ inr (λ so. stops (back _ so)) ];
}

module _ (book kept : List HeldClaim) (pieces : List Claim) (n : ℕ) (d : Claim) (inside : n < length pieces) (same : (claim : Claim) → claim.zone ≡ (get_or pieces n d).zone → IsFree kept claim ↔ IsFree book claim) where
  -- what is free of the zone that was read is free of the book, and the other way round
  there : (tick : ℤ) → IsFreeOf kept (get_or pieces n d) tick → HoldsAt (λ piece. IsFree book (moved tick piece)) pieces n
  there tick so other = subst (λ piece. IsFree book (moved tick piece)) (get_or_default pieces n d other inside) ((same (moved tick (get_or pieces n d)) refl).0 so)

  back : (tick : ℤ) → HoldsAt (λ piece. IsFree book (moved tick piece)) pieces n → IsFreeOf kept (get_or pieces n d) tick
  back tick so = (same (moved tick (get_or pieces n d)) refl).1 (so d)

  -- the first free ticks of a piece, by the zone that was read
  pub next_at : (within ticks : Window) → IsNextWindow (IsFreeOf kept (get_or pieces n d)) within ticks → IsNextWindow (λ tick. HoldsAt (λ piece. IsFree book (moved tick piece)) pieces n) within ticks
  next_at within ticks next = next_of_same (IsFreeOf kept (get_or pieces n d)) (λ tick. HoldsAt (λ piece. IsFree book (moved tick piece)) pieces n) within ticks there back next

  pub none_at : (within : Window) → ((tick : ℤ) → Holds within tick → ¬ IsFreeOf kept (get_or pieces n d) tick) → (tick : ℤ) → Holds within tick → ¬ HoldsAt (λ piece. IsFree book (moved tick piece)) pieces n
  none_at within none tick held so = none tick held (back tick so)
