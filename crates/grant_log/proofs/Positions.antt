-- The position of the first element that passes a test.
use Rattle.std.proofs.Common.{◌≡◌, sym, ◌∙◌, ℕ, ◌<◌, Bool, true, false, not, nat_lt, List, [], ◌∷◌, ◌++◌, length, get_or, take, Some, None, position, All, ap, inl, inr, refl, arith, length-append}
use Rattle.std.specs.List.{position_or_len}
use Rattle.std.proofs.lemmas.Bool.Decides.{nat_tests}
use Rattle.std.proofs.lemmas.List.Sums.{prefix_len_is, fails_before_first}
use Rattle.std.proofs.lemmas.List.Quantifiers.{position-Some}
use Rattle.std.proofs.lemmas.List.Elements.{All-push, All-take}
use Rattle.std.proofs.lemmas.List.{get_or_append_left, get_or_at}
use Rattle.std.proofs.lemmas.Bool.{cases_lt}

pub position_found : {X : Type 0} (p : X → Bool) (xs : List X) (place : ℕ) (x : X) → place < length xs → ((k : ℕ) → k < place → p (get_or xs k x) ≡ false) → p (get_or xs place x) ≡ true → position p xs ≡ Some place
position_found p xs place x within before here =
    let is : position_or_len p xs ≡ place = prefix_len_is (λ y. not (p y)) xs place x (omega arith) (λ k less. ap not (before k less)) (λ in_range. ap not here) in
    let test : nat_lt place (length xs) ≡ true = grind (arith, nat_tests) in
    rw (is, test) refl

pub position_none : {X : Type 0} (p : X → Bool) (xs : List X) → All (λ x. p x ≡ false) xs → position p xs ≡ None
position_none p [] all = refl
position_none p (x ∷ xs) all =
    let is : position_or_len p (x ∷ xs) ≡ length (x ∷ xs) = prefix_len_is (λ y. not (p y)) (x ∷ xs) (length (x ∷ xs)) x (omega arith) (λ k less. ap not (all k x less)) (λ in_range. absurd (omega arith)) in
    let test : nat_lt (length (x ∷ xs)) (length (x ∷ xs)) ≡ false = grind (arith, nat_tests) in
    rw (is, test) refl

-- where no element has a position, none passes
pub none_passes : {X : Type 0} (p : X → Bool) (xs : List X) → position p xs ≡ None → All (λ x. p x ≡ false) xs
none_passes p xs none k x within = elim (cases_lt (position_or_len p xs) (length xs)) [
  | inl less ↦
      let test : nat_lt (position_or_len p xs) (length xs) ≡ true = grind (arith, nat_tests) in
      let wrong : Some (position_or_len p xs) ≡ None = rw test at none in
      cc
  | inr more ↦ fails_before_first p xs k x (omega arith)
]

module _ {X : Type 0} (p : X → Bool) (xs : List X) (y : X) where
  longer : (k : ℕ) → k < length xs → k < length (xs ++ y ∷ [])
  longer k less = simp length-append (omega arith)

  -- one more behind leaves a position
  pub position_stays : (place : ℕ) → position p xs ≡ Some place → position p (xs ++ y ∷ []) ≡ Some place
  position_stays place found =
      let facts = position-Some p xs place y found in
      let within = facts.0 in
      position_found p (xs ++ y ∷ []) place y (longer place within)
      (λ k less. rw (get_or_append_left xs (y ∷ []) y k (omega arith)) (facts.2 k less))
      (rw (get_or_append_left xs (y ∷ []) y place within) facts.1)

  -- one more that passes behind others that do not
  pub position_last : position p xs ≡ None → p y ≡ true → position p (xs ++ y ∷ []) ≡ Some (length xs)
  position_last none passes =
      let fails = none_passes p xs none in
      position_found p (xs ++ y ∷ []) (length xs) y (simp length-append (omega arith))
      (λ k less. rw (get_or_append_left xs (y ∷ []) y k less) (fails k y less))
      (rw (get_or_at xs y [] y (length xs) refl) passes)

  -- one more that does not pass either
  pub position_nowhere : position p xs ≡ None → p y ≡ false → position p (xs ++ y ∷ []) ≡ None
  position_nowhere none fails = position_none p (xs ++ y ∷ []) (All-push (λ x. p x ≡ false) xs y (none_passes p xs none) fails)

-- none has a position in a front where none has one in the whole
pub position_take : {X : Type 0} (p : X → Bool) (front : ℕ) (xs : List X) → position p xs ≡ None → position p (take front xs) ≡ None
position_take p front xs none = position_none p (take front xs) (All-take (λ x. p x ≡ false) front xs (none_passes p xs none))

pub not_true : (b : Bool) → b ≡ false → ¬ (b ≡ true)
not_true b fails passes = let wrong : false ≡ true = sym fails ∙ passes in cc

pub is_false : (b : Bool) → ¬ (b ≡ true) → b ≡ false
is_false true wrong = absurd (wrong refl)
is_false false wrong = refl
