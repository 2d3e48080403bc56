-- Lists of views after one of them changed, or a new one came.
use Rattle.std.proofs.Common.{◌≡◌, ℕ, zero, suc, ◌+◌, ◌≤◌, ◌<◌, ◌≢◌, ◌⊎◌, List, [], ◌∷◌, ◌++◌, length, set, sum_by, sym, refl, ap, subst, inl, inr, ⊎_elim, arith}
use Rattle.std.proofs.lemmas.List.Sums.{sum_by-cons}
use mathlib.Core.Option.{some, some-injective, some-ne-none}
use lib.ListN.{get_elem?}
use Rattle.atomic_table.proofs.Lists.{at_set}

module _ {A : Type 0} where
  -- what holds of each after one changed
  pub each_set : (P Q : ℕ → A → Type 0) (l : List A) (i : ℕ) (a : A) → Q i a → ((j : ℕ) (b : A) → j ≢ i → get_elem? l j ≡ some b → P j b → Q j b)
      → ((j : ℕ) (b : A) → get_elem? l j ≡ some b → P j b) → (j : ℕ) (b : A) → get_elem? (set l i a) j ≡ some b → Q j b
  each_set P Q l i a here others all j b e = ⊎_elim (λ (t : (j ≡ i) × (a ≡ b)). subst (λ (z : ℕ × A). Q z.0 z.1) (λ k. (sym t.0 k, t.1 k)) here)
      (λ (t : (j ≢ i) × (get_elem? l j ≡ some b)). others j b t.0 t.1 (all j b t.1)) (at_set l i j a b e)

  pub at_end : (l : List A) (a b : A) (j : ℕ) → get_elem? (l ++ a ∷ []) j ≡ some b → (get_elem? l j ≡ some b) ⊎ ((j ≡ length l) × (a ≡ b))
  at_end [] a b zero e = inr (refl, some-injective a b e)
  at_end [] a b (suc j) e = absurd (some-ne-none b (sym e))
  at_end (x ∷ xs) a b zero e = inl e
  at_end (x ∷ xs) a b (suc j) e = ⊎_elim inl (λ (t : (j ≡ length xs) × (a ≡ b)). inr (ap suc t.0, t.1)) (at_end xs a b j e)

  pub within_length : (l : List A) (i : ℕ) (a : A) → get_elem? l i ≡ some a → i < length l
  within_length [] i a e = absurd (some-ne-none a (sym e))
  within_length (x ∷ xs) zero a e = omega arith
  within_length (x ∷ xs) (suc i) a e = let h : i < length xs = within_length xs i a e in omega arith

  -- the sum after one changed
  pub sum_set : (f : A → ℕ) (l : List A) (i : ℕ) (a b : A) → get_elem? l i ≡ some a → sum_by f (set l i b) + f a ≡ sum_by f l + f b
  sum_set f [] i a b e = absurd (some-ne-none a (sym e))
  sum_set f (x ∷ xs) zero a b e = let same : f x ≡ f a = ap f (some-injective x a e) in omega (arith, sum_by-cons f x xs, sum_by-cons f b xs)
  sum_set f (x ∷ xs) (suc i) a b e = let rest = sum_set f xs i a b e in omega (arith, sum_by-cons f x xs, sum_by-cons f x (set xs i b))

  pub sum_has : (f : A → ℕ) (l : List A) (i : ℕ) (a : A) → get_elem? l i ≡ some a → f a ≤ sum_by f l
  sum_has f [] i a e = absurd (some-ne-none a (sym e))
  sum_has f (x ∷ xs) zero a e = let same : f x ≡ f a = ap f (some-injective x a e) in omega (arith, sum_by-cons f x xs)
  sum_has f (x ∷ xs) (suc i) a e = let rest = sum_has f xs i a e in omega (arith, sum_by-cons f x xs)

  pub sum_has_both : (f : A → ℕ) (l : List A) (i j : ℕ) (a b : A) → get_elem? l i ≡ some a → get_elem? l j ≡ some b → j ≢ i → f a + f b ≤ sum_by f l
  sum_has_both f [] i j a b e h n = absurd (some-ne-none a (sym e))
  sum_has_both f (x ∷ xs) zero zero a b e h n = absurd (n refl)
  sum_has_both f (x ∷ xs) zero (suc j) a b e h n = let same : f x ≡ f a = ap f (some-injective x a e) in let rest = sum_has f xs j b h in omega (arith, sum_by-cons f x xs)
  sum_has_both f (x ∷ xs) (suc i) zero a b e h n = let same : f x ≡ f b = ap f (some-injective x b h) in let rest = sum_has f xs i a e in omega (arith, sum_by-cons f x xs)
  sum_has_both f (x ∷ xs) (suc i) (suc j) a b e h n = let rest = sum_has_both f xs i j a b e h (λ (k : j ≡ i). n (ap suc k)) in omega (arith, sum_by-cons f x xs)

  pub at_place : (l : List A) (i : ℕ) → ((a : A) × (get_elem? l i ≡ some a)) ⊎ (length l ≤ i)
  at_place [] i = inr (omega arith)
  at_place (x ∷ xs) zero = inl (x, refl)
  at_place (x ∷ xs) (suc i) = ⊎_elim inl (λ (h : length xs ≤ i). inr (omega arith)) (at_place xs i)
