-- The element at a place of a list that was cut or grew by one.
use Rattle.std.proofs.Common.{◌≡◌, ◌⊎◌, ℕ, zero, suc, ◌<◌, List, [], ◌∷◌, ◌++◌, length, slice_get, take, Option, Some, None, Contains, inl, inr, refl, ap, arith}
use Rattle.std.proofs.lemmas.Option.{same_Some, slice_get_within, get_or_from_slice_get}

module _ {X : Type 0} where
  pub slice_get_take : (front : ℕ) (xs : List X) (at : ℕ) (x : X) → slice_get (take front xs) at ≡ Some x → (at < front) × (slice_get xs at ≡ Some x)
  slice_get_take zero xs at x here = let wrong : ◌≡◌ {A = Option X} None (Some x) = here in cc
  slice_get_take (suc front) [] at x here = let wrong : ◌≡◌ {A = Option X} None (Some x) = here in cc
  slice_get_take (suc front) (y ∷ ys) zero x here = (omega arith, here)
  slice_get_take (suc front) (y ∷ ys) (suc at) x here = let rest = slice_get_take front ys at x here in (omega arith, rest.1)

  pub slice_get_push : (xs : List X) (y : X) (at : ℕ) (x : X) → slice_get (xs ++ y ∷ []) at ≡ Some x → ((at < length xs) × (slice_get xs at ≡ Some x)) ⊎ ((at ≡ length xs) × (y ≡ x))
  slice_get_push [] y zero x here = inr (refl, same_Some y x here)
  slice_get_push [] y (suc at) x here = let wrong : ◌≡◌ {A = Option X} None (Some x) = here in cc
  slice_get_push (z ∷ zs) y zero x here = inl (omega arith, here)
  slice_get_push (z ∷ zs) y (suc at) x here = elim (slice_get_push zs y at x here) [
    | inl before ↦ inl (let less = before.0 in omega arith, before.1)
    | inr last ↦ inr (ap suc last.0, last.1)
  ]

  pub take_slice_get : (front : ℕ) (xs : List X) (at : ℕ) → at < front → slice_get (take front xs) at ≡ slice_get xs at
  take_slice_get zero xs at less = absurd (omega arith)
  take_slice_get (suc front) [] at less = refl
  take_slice_get (suc front) (y ∷ ys) zero less = refl
  take_slice_get (suc front) (y ∷ ys) (suc at) less = take_slice_get front ys at (omega arith)

  -- the one element of a list of one
  pub contains_one : (y x : X) → Contains (y ∷ []) x → y ≡ x
  contains_one y x (zero, within, here) = here
  contains_one y x (suc k, within, here) = absurd (omega arith)

  pub is_contained : (xs : List X) (at : ℕ) (x : X) → slice_get xs at ≡ Some x → Contains xs x
  is_contained xs at x here = (at, slice_get_within xs at x here, get_or_from_slice_get xs at x x here)

  pub slice_get_kept : (xs : List X) (y : X) (at : ℕ) (x : X) → slice_get xs at ≡ Some x → slice_get (xs ++ y ∷ []) at ≡ Some x
  slice_get_kept [] y at x here = let wrong : ◌≡◌ {A = Option X} None (Some x) = here in cc
  slice_get_kept (z ∷ zs) y zero x here = here
  slice_get_kept (z ∷ zs) y (suc at) x here = slice_get_kept zs y at x here

  pub slice_get_last : (xs : List X) (y : X) → slice_get (xs ++ y ∷ []) (length xs) ≡ Some y
  slice_get_last [] y = refl
  slice_get_last (z ∷ zs) y = slice_get_last zs y
