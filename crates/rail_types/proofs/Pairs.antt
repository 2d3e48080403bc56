-- What holds of all elements or all pairs of a list, element by element.
use Rattle.std.proofs.Common.{zero, suc, List, [], ◌∷◌, map, arith, All, AllPairs}
use Rattle.std.proofs.lemmas.List.Elements.{All-nil, All-cons, All-head, All-tail, All-map}

module _ {X : Type 0} (R : X → X → Type 0) where
  pub all_pairs_nil : AllPairs R []
  all_pairs_nil i j other before within = absurd (omega arith)

  -- the first element stands before all others
  pub all_pairs_head : (x : X) (xs : List X) → AllPairs R (x ∷ xs) → All (R x) xs
  all_pairs_head x xs pairs k other within = pairs 0 (suc k) other (omega arith) (omega arith)

  pub all_pairs_tail : (x : X) (xs : List X) → AllPairs R (x ∷ xs) → AllPairs R xs
  all_pairs_tail x xs pairs i j other before within = pairs (suc i) (suc j) other (omega arith) (omega arith)

  pub all_pairs_cons : (x : X) (xs : List X) → All (R x) xs → AllPairs R xs → AllPairs R (x ∷ xs)
  all_pairs_cons x xs first pairs zero zero other before within = absurd (omega arith)
  all_pairs_cons x xs first pairs zero (suc j) other before within = first j other (omega arith)
  all_pairs_cons x xs first pairs (suc i) zero other before within = absurd (omega arith)
  all_pairs_cons x xs first pairs (suc i) (suc j) other before within = pairs i j other (omega arith) (omega arith)

-- what holds of each image holds of each element
pub all_of_map : {X Y : Type 0} (P : Y → Type 0) (f : X → Y) (xs : List X) → All P (map f xs) → All (λ x. P (f x)) xs
all_of_map P f [] all = All-nil (λ x. P (f x))
all_of_map P f (x ∷ xs) all = All-cons (λ y. P (f y)) x xs (All-head P (f x) (map f xs) all) (all_of_map P f xs (All-tail P (f x) (map f xs) all))

pub all_pairs_of_map : {X Y : Type 0} (R : Y → Y → Type 0) (f : X → Y) (xs : List X) → AllPairs R (map f xs) → AllPairs (λ x y. R (f x) (f y)) xs
all_pairs_of_map R f [] pairs = all_pairs_nil (λ x y. R (f x) (f y))
all_pairs_of_map R f (x ∷ xs) pairs =
    all_pairs_cons (λ x y. R (f x) (f y)) x xs (all_of_map (R (f x)) f xs (all_pairs_head R (f x) (map f xs) pairs)) (all_pairs_of_map R f xs (all_pairs_tail R (f x) (map f xs) pairs))

pub all_pairs_map : {X Y : Type 0} (R : Y → Y → Type 0) (f : X → Y) (xs : List X) → AllPairs (λ x y. R (f x) (f y)) xs → AllPairs R (map f xs)
all_pairs_map R f [] pairs = all_pairs_nil R
all_pairs_map R f (x ∷ xs) pairs =
    all_pairs_cons R (f x) (map f xs) (All-map (R (f x)) f xs (all_pairs_head (λ x y. R (f x) (f y)) x xs pairs)) (all_pairs_map R f xs (all_pairs_tail (λ x y. R (f x) (f y)) x xs pairs))
