-- What holds of all pairs of a list, element by element.
use Rattle.std.proofs.Common.{ℕ, zero, suc, Bool, true, false, cond, List, [], ◌∷◌, ◌++◌, length, arith, All, filter, insert, AllPairs}
use Rattle.std.specs.List.{AllWithin}
use Rattle.std.proofs.lemmas.List.Elements.{All-nil, All-cons, All-head, All-tail, All-append, All-filter}
use Rattle.std.proofs.lemmas.List.Sorted.{All-permutation, IsPermutation-insert}

module _ {X : Type 0} (R : X → X → Type 0) where
  pub all_pairs_nil : AllPairs R []
  all_pairs_nil i j other before within = absurd (omega arith)

  -- the first element stands before all others
  pub all_pairs_head : (x : X) (xs : List X) → AllPairs R (x ∷ xs) → All (R x) xs
  all_pairs_head x xs pairs k other within = pairs 0 (suc k) other (omega arith) (omega arith)

  pub all_pairs_tail : (x : X) (xs : List X) → AllPairs R (x ∷ xs) → AllPairs R xs
  all_pairs_tail x xs pairs i j other before within = pairs (suc i) (suc j) other (omega arith) (omega arith)

  pub all_pairs_cons : (x : X) (xs : List X) → All (R x) xs → AllPairs R xs → AllPairs R (x ∷ xs)
  all_pairs_cons x xs first pairs zero zero other before within = absurd (omega arith)
  all_pairs_cons x xs first pairs zero (suc j) other before within = first j other (omega arith)
  all_pairs_cons x xs first pairs (suc i) zero other before within = absurd (omega arith)
  all_pairs_cons x xs first pairs (suc i) (suc j) other before within = pairs i j other (omega arith) (omega arith)

  pub all_pairs_append : (xs ys : List X) → AllPairs R xs → AllPairs R ys → All (λ x. All (R x) ys) xs → AllPairs R (xs ++ ys)
  all_pairs_append [] ys pairs others across = others
  all_pairs_append (x ∷ xs) ys pairs others across = all_pairs_cons x (xs ++ ys) (All-append (R x) xs ys (all_pairs_head x xs pairs) (All-head (λ y. All (R y) ys) x xs across)) (all_pairs_append xs ys (all_pairs_tail x xs pairs) others (All-tail (λ y. All (R y) ys) x xs across))

  pub all_pairs_filter : (keeps : X → Bool) (xs : List X) → AllPairs R xs → AllPairs R (filter keeps xs)
  all_pairs_filter keeps [] pairs = pairs
  all_pairs_filter keeps (x ∷ xs) pairs =
      let rest = all_pairs_filter keeps xs (all_pairs_tail x xs pairs) in
      let kept = all_pairs_cons x (filter keeps xs) (All-filter keeps (R x) xs (all_pairs_head x xs pairs)) rest in
      elim (keeps x) as (λ keep. AllPairs R (cond keep (x ∷ filter keeps xs) (filter keeps xs))) [ true ↦ kept | false ↦ rest ]

  -- a new element goes behind those that may stand before it, and before the others
  pub all_pairs_insert : (xs : List X) (at : ℕ) (x : X) → AllPairs R xs → AllWithin (λ y. R y x) xs 0 at → AllWithin (R x) xs at (length xs) → AllPairs R (insert xs at x)
  all_pairs_insert xs zero x pairs before after = all_pairs_cons x xs (λ k other within. after k other (omega arith) within) pairs
  all_pairs_insert [] (suc at) x pairs before after = all_pairs_cons x [] (All-nil (R x)) all_pairs_nil
  all_pairs_insert (y ∷ ys) (suc at) x pairs before after =
      let first : R y x = before 0 y (omega arith) (omega arith) in
      let others = All-permutation (R y) _ _ (IsPermutation-insert ys at x) (All-cons (R y) x ys first (all_pairs_head y ys pairs)) in
      all_pairs_cons y (insert ys at x) others (all_pairs_insert ys at x (all_pairs_tail y ys pairs) (λ k other low high. before (suc k) other (omega arith) (omega arith)) (λ k other low high. after (suc k) other (omega arith) (omega arith)))

  pub all_pairs_weaker : (Q : X → X → Type 0) → ((x y : X) → R x y → Q x y) → (xs : List X) → AllPairs R xs → AllPairs Q xs
  all_pairs_weaker Q weaker xs pairs i j other before within = weaker _ _ (pairs i j other before within)
