-- Pairs of elements, and fronts of lists of calls.
use Rattle.std.proofs.Common.{◌≡◌, ◌++◌, ℕ, zero, suc, List, [], ◌∷◌, All, AllPairs, get_or, take, drop, refl, ap, subst, arith}
use Rattle.std.proofs.lemmas.List.{get_or_append_left, length-append}
use Rattle.std.proofs.lemmas.List.Elements.{All-cons, All-head, All-nil, All-tail}
use Rattle.outside_io.specs.Openings.{Opening}

module _ {X : Type 0} (P : X → Type 0) where
  pub all_left : (xs ys : List X) → All P (xs ++ ys) → All P xs
  all_left [] ys h = All-nil P
  all_left (x ∷ xs) ys h = All-cons P x xs (All-head P x (xs ++ ys) h) (all_left xs ys (All-tail P x (xs ++ ys) h))

  pub all_right : (xs ys : List X) → All P (xs ++ ys) → All P ys
  all_right [] ys h = h
  all_right (x ∷ xs) ys h = all_right xs ys (All-tail P x (xs ++ ys) h)

module _ {X : Type 0} (R : X → X → Type 0) where
  pub pairs_head : (x : X) (xs : List X) → AllPairs R (x ∷ xs) → All (R x) xs
  pairs_head x xs h k d lt = h 0 (suc k) d (omega arith) (omega arith)

  pub pairs_tail : (x : X) (xs : List X) → AllPairs R (x ∷ xs) → AllPairs R xs
  pairs_tail x xs h i j d lt within = h (suc i) (suc j) d (omega arith) (omega arith)

  pub pairs_drop : (n : ℕ) (xs : List X) → AllPairs R xs → AllPairs R (drop n xs)
  pairs_drop zero xs h = h
  pairs_drop (suc n) [] h = h
  pairs_drop (suc n) (x ∷ xs) h = pairs_drop n xs (pairs_tail x xs h)

  pub pairs_front : (xs ys : List X) → AllPairs R (xs ++ ys) → AllPairs R xs
  pairs_front xs ys h i j d lt within =
      let long = length-append xs ys in
      let one = get_or_append_left xs ys d i (omega arith) in
      let other = get_or_append_left xs ys d j within in
      let pair : R (get_or (xs ++ ys) i d) (get_or (xs ++ ys) j d) = h i j d lt (omega arith) in
      subst (λ (x : X). R x (get_or xs j d)) one (subst (λ (y : X). R (get_or (xs ++ ys) i d) y) other pair)

  pub pairs_last : (xs : List X) (y : X) (ys : List X) → AllPairs R (xs ++ y ∷ ys) → All (λ x. R x y) xs
  pairs_last [] y ys h = All-nil (λ x. R x y)
  pairs_last (x ∷ xs) y ys h =
      All-cons (λ z. R z y) x xs (All-head (R x) y ys (all_right (R x) xs (y ∷ ys) (pairs_head x (xs ++ y ∷ ys) h)))
      (pairs_last xs y ys (pairs_tail x (xs ++ y ∷ ys) h))

-- a front of a list of calls is so many of its first
pub front_taken : (first next : List Opening) → (count : ℕ) × (take count (first ++ next) ≡ first)
front_taken [] next = (zero, refl)
front_taken (call ∷ first) next =
    let rest = front_taken first next in
    (suc rest.0, ap (λ (calls : List Opening). call ∷ calls) rest.1)
