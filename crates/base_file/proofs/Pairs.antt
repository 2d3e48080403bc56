-- What holds of all pairs of a list, element by element.
use Rattle.std.proofs.Common.{◌≡◌, zero, suc, List, [], ◌∷◌, ◌++◌, map, Bool, false, arith, All, AllPairs}
use Rattle.std.specs.List.{AllByRecursion, IsDistinct}
use Rattle.std.proofs.lemmas.List.Elements.{All-nil, All-cons, All-head, All-tail, All-append, All-map}

module _ {X : Type 0} (R : X → X → Type 0) where
  pub all_pairs_nil : AllPairs R []
  all_pairs_nil i j other before within = absurd (omega arith)

  pub all_pairs_head : (x : X) (xs : List X) → AllPairs R (x ∷ xs) → All (R x) xs
  all_pairs_head x xs pairs k other within = pairs 0 (suc k) other (omega arith) (omega arith)

  pub all_pairs_tail : (x : X) (xs : List X) → AllPairs R (x ∷ xs) → AllPairs R xs
  all_pairs_tail x xs pairs i j other before within = pairs (suc i) (suc j) other (omega arith) (omega arith)

  pub all_pairs_cons : (x : X) (xs : List X) → All (R x) xs → AllPairs R xs → AllPairs R (x ∷ xs)
  all_pairs_cons x xs first pairs zero zero other before within = absurd (omega arith)
  all_pairs_cons x xs first pairs zero (suc j) other before within = first j other (omega arith)
  all_pairs_cons x xs first pairs (suc i) zero other before within = absurd (omega arith)
  all_pairs_cons x xs first pairs (suc i) (suc j) other before within = pairs i j other (omega arith) (omega arith)

  pub all_pairs_append : (xs ys : List X) → AllPairs R xs → AllPairs R ys → All (λ x. All (R x) ys) xs → AllPairs R (xs ++ ys)
  all_pairs_append [] ys pairs others across = others
  all_pairs_append (x ∷ xs) ys pairs others across = all_pairs_cons x (xs ++ ys) (All-append (R x) xs ys (all_pairs_head x xs pairs) (All-head (λ y. All (R y) ys) x xs across)) (all_pairs_append xs ys (all_pairs_tail x xs pairs) others (All-tail (λ y. All (R y) ys) x xs across))

pub all_pairs_map : {X Y : Type 0} (R : Y → Y → Type 0) (f : X → Y) (xs : List X) → AllPairs (λ x y. R (f x) (f y)) xs → AllPairs R (map f xs)
all_pairs_map R f [] pairs = all_pairs_nil R
all_pairs_map R f (x ∷ xs) pairs =
    all_pairs_cons R (f x) (map f xs) (All-map (R (f x)) f xs (all_pairs_head (λ x y. R (f x) (f y)) x xs pairs)) (all_pairs_map R f xs (all_pairs_tail (λ x y. R (f x) (f y)) x xs pairs))

pub all_pairs_weaker : {X : Type 0} (P Q : X → X → Type 0) (weaker : (x y : X) → P x y → Q x y) (xs : List X) → AllPairs P xs → AllPairs Q xs
all_pairs_weaker P Q weaker xs pairs i j other before within = weaker _ _ (pairs i j other before within)

-- a test that fails for each pair
module _ {X : Type 0} (test : X → X → Bool) (R : X → X → Type 0) where
  none_of : (x : X) (to : (y : X) → R x y → test x y ≡ false) (xs : List X) → All (R x) xs → AllByRecursion (λ y. test x y ≡ false) xs
  none_of x to [] all = tt
  none_of x to (y ∷ xs) all = (to y (All-head (R x) y xs all), none_of x to xs (All-tail (R x) y xs all))

  pub distinct : (to : (x y : X) → R x y → test x y ≡ false) (xs : List X) → AllPairs R xs → IsDistinct test xs
  unfolding IsDistinct
  distinct to [] pairs = tt
  distinct to (x ∷ xs) pairs = (none_of x (to x) xs (all_pairs_head R x xs pairs), distinct to xs (all_pairs_tail R x xs pairs))

  all_of : (x : X) (from : (y : X) → test x y ≡ false → R x y) (xs : List X) → AllByRecursion (λ y. test x y ≡ false) xs → All (R x) xs
  all_of x from [] none = All-nil (R x)
  all_of x from (y ∷ xs) none = All-cons (R x) y xs (from y none.0) (all_of x from xs none.1)

  pub pairs_of : (from : (x y : X) → test x y ≡ false → R x y) (xs : List X) → IsDistinct test xs → AllPairs R xs
  unfolding IsDistinct
  pairs_of from [] none = all_pairs_nil R
  pairs_of from (x ∷ xs) none = all_pairs_cons R x xs (all_of x (from x) xs none.0) (pairs_of from xs none.1)
