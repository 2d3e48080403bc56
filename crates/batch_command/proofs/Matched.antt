-- Lists that stand to one another place by place.
use Rattle.std.proofs.Common.{◌≡◌, ◌≢◌, ℕ, suc, ◌<◌, List, [], ◌∷◌, ◌++◌, All, AllPairs, get_or, length, map, ap, sym, ◌∙◌, subst, refl, arith}
use Rattle.std.proofs.Math.ListN.{get_or-map}
use Rattle.std.proofs.lemmas.List.{get_or_default, length-map}
use Rattle.std.proofs.lemmas.List.Elements.{All-cons, All-head, All-nil, All-tail}
use Rattle.batch_pool.specs.Batches.{AreMatched}

module _ {X Y : Type 0} (R : X → Y → Type 0) where
  pub matched_push : (xs : List X) (ys : List Y) (x : X) (y : Y) → AreMatched R xs ys → R x y → AreMatched R (xs ++ x ∷ []) (ys ++ y ∷ [])
  matched_push [] [] x y all one = (one, tt)
  matched_push [] (b ∷ ys) x y all one = absurd all
  matched_push (a ∷ xs) [] x y all one = absurd all
  matched_push (a ∷ xs) (b ∷ ys) x y all one = (all.0, matched_push xs ys x y all.1 one)

  pub matched_length : (xs : List X) (ys : List Y) → AreMatched R xs ys → length ys ≡ length xs
  matched_length [] [] all = refl
  matched_length [] (b ∷ ys) all = absurd all
  matched_length (a ∷ xs) [] all = absurd all
  matched_length (a ∷ xs) (b ∷ ys) all = ap suc (matched_length xs ys all.1)

  pub matched_all : (P : Y → Type 0) → ((x : X) (y : Y) → R x y → P y) → (xs : List X) (ys : List Y) → AreMatched R xs ys → All P ys
  matched_all P each [] [] all = All-nil P
  matched_all P each [] (b ∷ ys) all = absurd all
  matched_all P each (a ∷ xs) [] all = absurd all
  matched_all P each (a ∷ xs) (b ∷ ys) all = All-cons P b ys (each a b all.0) (matched_all P each xs ys all.1)

  -- the last ones stand so to one another, and those before
  pub record Last (xs : List X) (x : X) (ys : List Y) : Type 0 where
    pub before : List Y
    pub last : Y
    pub ys_are : ys ≡ before ++ last ∷ []
    pub all : AreMatched R xs before
    pub one : R x last

  pub last_of : (xs : List X) (x : X) (ys : List Y) → AreMatched R (xs ++ x ∷ []) ys → Last xs x ys
  last_of [] x [] all = absurd all
  last_of [] x (y ∷ []) all = record { before = []; last = y; ys_are = refl; all = tt; one = all.0 }
  last_of [] x (y ∷ z ∷ ys) all = absurd all.1
  last_of (a ∷ xs) x [] all = absurd all
  last_of (a ∷ xs) x (y ∷ ys) all =
      let rest = last_of xs x ys all.1 in
      record { before = y ∷ rest.before; last = rest.last; ys_are = ap (λ l. y ∷ l) rest.ys_are; all = (all.0, rest.all); one = rest.one }

  pub matched_none : (ys : List Y) → AreMatched R [] ys → ys ≡ []
  matched_none [] all = refl
  matched_none (y ∷ ys) all = absurd all

-- ---- names that differ

AllPairs-map : {X Y : Type 0} (R : Y → Y → Type 0) (f : X → Y) (xs : List X) → AllPairs R (map f xs) → AllPairs (λ a b. R (f a) (f b)) xs
AllPairs-map R f xs h i j d less below =
    let there : j < length (map f xs) = omega (arith, length-map xs f) in
    subst (λ y. R (f (get_or xs i d)) y) (get_or-map f xs j d)
    (subst (λ y. R y (get_or (map f xs) j (f d))) (get_or-map f xs i d) (h i j (f d) less there))

AllPairs-mapped : {X Y : Type 0} (R : Y → Y → Type 0) (f : X → Y) (xs : List X) → AllPairs (λ a b. R (f a) (f b)) xs → AllPairs R (map f xs)
AllPairs-mapped R f [] h i j d less below = absurd (omega arith)
AllPairs-mapped R f (x ∷ xs) h i j d less below =
    let long = length-map (x ∷ xs) f in
    let there : j < length (x ∷ xs) = omega arith in
    let sooner : i < length (map f (x ∷ xs)) = omega arith in
    let at = λ (k : ℕ) (within : k < length (map f (x ∷ xs))).
    get_or_default (map f (x ∷ xs)) k d (f x) within ∙ get_or-map f (x ∷ xs) k x in
    subst (λ y. R y (get_or (map f (x ∷ xs)) j d)) (sym (at i sooner))
    (subst (λ y. R (f (get_or (x ∷ xs) i x)) y) (sym (at j below)) (h i j x less there))

-- lists with the same names have them apart alike
pub apart_alike : {X Z N : Type 0} (f : X → N) (g : Z → N) (xs : List X) (zs : List Z) → map g zs ≡ map f xs
    → AllPairs (λ a b. f a ≢ f b) xs → AllPairs (λ a b. g a ≢ g b) zs
apart_alike f g xs zs same apart =
    AllPairs-map (λ a b. a ≢ b) g zs (subst (AllPairs (λ a b. a ≢ b)) (sym same) (AllPairs-mapped (λ a b. a ≢ b) f xs apart))

pub All-left : {X : Type 0} (P : X → Type 0) (xs ys : List X) → All P (xs ++ ys) → All P xs
All-left P [] ys all = All-nil P
All-left P (x ∷ xs) ys all = All-cons P x xs (All-head P x (xs ++ ys) all) (All-left P xs ys (All-tail P x (xs ++ ys) all))

pub All-right : {X : Type 0} (P : X → Type 0) (xs ys : List X) → All P (xs ++ ys) → All P ys
All-right P [] ys all = all
All-right P (x ∷ xs) ys all = All-right P xs ys (All-tail P x (xs ++ ys) all)
