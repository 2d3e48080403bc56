-- What holds of all pairs of a list, element by element.
use Rattle.std.proofs.Common.{zero, suc, List, [], ◌∷◌, ◌++◌, arith, All, AllPairs}
use Rattle.std.proofs.lemmas.List.Elements.{All-nil, All-cons, All-head, All-tail, All-append}

pub all_front : {X : Type 0} (P : X → Type 0) (xs : List X) (x : X) → All P (xs ++ x ∷ []) → All P xs
all_front P [] x all = All-nil P
all_front P (y ∷ xs) x all = All-cons P y xs (All-head P y (xs ++ x ∷ []) all) (all_front P xs x (All-tail P y (xs ++ x ∷ []) all))

pub all_last : {X : Type 0} (P : X → Type 0) (xs : List X) (x : X) → All P (xs ++ x ∷ []) → P x
all_last P [] x all = All-head P x [] all
all_last P (y ∷ xs) x all = all_last P xs x (All-tail P y (xs ++ x ∷ []) all)

module _ {X : Type 0} (R : X → X → Type 0) where
  pub all_pairs_nil : AllPairs R []
  all_pairs_nil i j other before within = absurd (omega arith)

  pub all_pairs_head : (x : X) (xs : List X) → AllPairs R (x ∷ xs) → All (R x) xs
  all_pairs_head x xs pairs k other within = pairs 0 (suc k) other (omega arith) (omega arith)

  pub all_pairs_tail : (x : X) (xs : List X) → AllPairs R (x ∷ xs) → AllPairs R xs
  all_pairs_tail x xs pairs i j other before within = pairs (suc i) (suc j) other (omega arith) (omega arith)

  pub all_pairs_cons : (x : X) (xs : List X) → All (R x) xs → AllPairs R xs → AllPairs R (x ∷ xs)
  all_pairs_cons x xs first pairs zero zero other before within = absurd (omega arith)
  all_pairs_cons x xs first pairs zero (suc j) other before within = first j other (omega arith)
  all_pairs_cons x xs first pairs (suc i) zero other before within = absurd (omega arith)
  all_pairs_cons x xs first pairs (suc i) (suc j) other before within = pairs i j other (omega arith) (omega arith)

  pub all_pairs_append : (xs ys : List X) → AllPairs R xs → AllPairs R ys → All (λ x. All (R x) ys) xs → AllPairs R (xs ++ ys)
  all_pairs_append [] ys pairs others across = others
  all_pairs_append (x ∷ xs) ys pairs others across = all_pairs_cons x (xs ++ ys) (All-append (R x) xs ys (all_pairs_head x xs pairs) (All-head (λ y. All (R y) ys) x xs across)) (all_pairs_append xs ys (all_pairs_tail x xs pairs) others (All-tail (λ y. All (R y) ys) x xs across))

  -- those in front of the last, and what they are to it
  pub all_pairs_front : (xs : List X) (x : X) → AllPairs R (xs ++ x ∷ []) → AllPairs R xs
  all_pairs_front [] x pairs = all_pairs_nil
  all_pairs_front (y ∷ xs) x pairs = all_pairs_cons y xs (all_front (R y) xs x (all_pairs_head y (xs ++ x ∷ []) pairs)) (all_pairs_front xs x (all_pairs_tail y (xs ++ x ∷ []) pairs))

  pub all_pairs_last : (xs : List X) (x : X) → AllPairs R (xs ++ x ∷ []) → All (λ y. R y x) xs
  all_pairs_last [] x pairs = All-nil (λ y. R y x)
  all_pairs_last (y ∷ xs) x pairs = All-cons (λ y. R y x) y xs (all_last (R y) xs x (all_pairs_head y (xs ++ x ∷ []) pairs)) (all_pairs_last xs x (all_pairs_tail y (xs ++ x ∷ []) pairs))
