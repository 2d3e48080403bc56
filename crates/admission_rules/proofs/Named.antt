-- Rules by the names of their clients.
use Rattle.std.proofs.Common.{◌≡◌, ◌≢◌, ℕ, zero, suc, ◌+◌, ◌<◌, true, false, bytes_eq, List, [], ◌∷◌, ◌++◌, drop, flat_map, get_or, length, set, take, ap, sym, ◌∙◌, subst, refl, arith}
use Rattle.std.proofs.lemmas.Bool.{cases_Bool}
use mathlib.Core.Logic.{⊎_elim}
use Rattle.std.proofs.lemmas.List.{append-nil, take_more}
use Rattle.std.proofs.lemmas.List.Concat.{flat_map-append}
use Rattle.std.proofs.lemmas.Slice.Eq.{bytes_eq-Decides}

-- ---- names

pub same_name : (a b : List ℕ) → a ≡ b → bytes_eq a b ≡ true
same_name a b same = (bytes_eq-Decides a b).1 same

pub other_name : (a b : List ℕ) → a ≢ b → bytes_eq a b ≡ false
other_name a b differ = ⊎_elim (λ yes. absurd (differ ((bytes_eq-Decides a b).0 yes))) (λ not. not) (cases_Bool (bytes_eq a b))

-- ---- one element changed

module _ {X Y : Type 0} (f : X → List Y) where
  pub flat_map-set : (xs : List X) (i : ℕ) (new d : X) → i < length xs → f new ≡ f (get_or xs i d) → flat_map f (set xs i new) ≡ flat_map f xs
  flat_map-set [] i new d below same = absurd (omega arith)
  flat_map-set (x ∷ xs) zero new d below same = ap (λ l. l ++ flat_map f xs) same
  flat_map-set (x ∷ xs) (suc i) new d below same = ap (λ l. f x ++ l) (flat_map-set xs i new d (omega arith) same)

  pub flat_map-more : (xs : List X) (i : ℕ) (item : X) → i < length xs → get_or xs i item ≡ item
      → flat_map f (take (i + 1) xs) ≡ flat_map f (take i xs) ++ f item
  flat_map-more xs i item below here =
      ap (flat_map f) (take_more xs i item below) ∙ flat_map-append f (take i xs) (get_or xs i item ∷ [])
      ∙ ap (λ l. flat_map f (take i xs) ++ l) (append-nil (f (get_or xs i item)) ∙ ap f here)

pub drop-set : {X : Type 0} (xs : List X) (i : ℕ) (new : X) → drop (i + 1) (set xs i new) ≡ drop (i + 1) xs
drop-set xs i new = let more : suc i ≡ i + 1 = omega arith in subst (λ n. drop n (set xs i new) ≡ drop n xs) more (past xs i new)
  where
    past : {X : Type 0} (xs : List X) (i : ℕ) (new : X) → drop (suc i) (set xs i new) ≡ drop (suc i) xs
    past [] i new = refl
    past (x ∷ xs) zero new = refl
    past (x ∷ xs) (suc i) new = past xs i new

pub drop-next : {X : Type 0} (xs ys : List X) (i : ℕ) → drop i xs ≡ drop i ys → drop (i + 1) xs ≡ drop (i + 1) ys
drop-next xs ys i same = let more : suc i ≡ i + 1 = omega arith in subst (λ n. drop n xs ≡ drop n ys) more (past xs ys i same)
  where
    none : {X : Type 0} (xs : List X) (i : ℕ) → [] ≡ drop i xs → [] ≡ drop (suc i) xs
    none [] i same = refl
    none (x ∷ xs) zero same = cc
    none (x ∷ xs) (suc i) same = none xs i same

    past : {X : Type 0} (xs ys : List X) (i : ℕ) → drop i xs ≡ drop i ys → drop (suc i) xs ≡ drop (suc i) ys
    past [] ys zero same = none ys 0 same
    past (x ∷ xs) [] zero same = cc
    past (x ∷ xs) (y ∷ ys) zero same = cc
    past [] ys (suc i) same = none ys (suc i) same
    past (x ∷ xs) [] (suc i) same = sym (none xs i (sym same))
    past (x ∷ xs) (y ∷ ys) (suc i) same = past xs ys i same

pub here_alike : {X : Type 0} (xs ys : List X) (i : ℕ) (d : X) → drop i xs ≡ drop i ys → get_or xs i d ≡ get_or ys i d
here_alike xs ys i d same = first_of xs i d ∙ ap (λ l. get_or l 0 d) same ∙ sym (first_of ys i d)
  where
    first_of : {X : Type 0} (xs : List X) (i : ℕ) (d : X) → get_or xs i d ≡ get_or (drop i xs) 0 d
    first_of [] zero d = refl
    first_of [] (suc i) d = refl
    first_of (x ∷ xs) zero d = refl
    first_of (x ∷ xs) (suc i) d = first_of xs i d
