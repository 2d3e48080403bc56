-- The first of a list of claims, as a search finds it.
use Rattle.std.proofs.Common.{◌≡◌, ℕ, zero, suc, ◌<◌, Bool, true, false, not, List, [], ◌∷◌, ◌++◌, length, get_or, Option, Some, None, find, All, sym, ap, subst, inl, inr, refl, arith, ◌∙◌, length-append, append-nil, append_assoc}
use Rattle.std.proofs.lemmas.List.{get_or_append_left, get_or_at}
use Rattle.std.specs.List.{list_all}
use Rattle.std.proofs.lemmas.Bool.{cases_Bool, and_from}
use Rattle.std.proofs.lemmas.List.Elements.{All-nil, All-head, All-tail, All-push}
use Rattle.std.proofs.lemmas.List.Folds.{list_all_at}
use Rattle.rail_types.specs.Occupation.{HeldClaim}
use Rattle.rail_types.specs.FirstClash.{is_before}
use Rattle.rail_types.proofs.ClaimTests.{false_when_not, not_before_itself, before_both, before_either}

-- the first of a list: none is before it, and it is before those that stand in front of it; None where the list is empty
abbrev pub IsFirstOf : List HeldClaim → Option HeldClaim → Type 0
IsFirstOf claims None = claims ≡ []
IsFirstOf claims (Some first) = (place : ℕ) × (place < length claims) × (get_or claims place first ≡ first) × ((k : ℕ) → k < place → is_before first.0 (get_or claims k first).0 ≡ true) × All (λ held. is_before held.0 first.0 ≡ false) claims

-- the first that passes a test is found
find_first : {X : Type 0} (p : X → Bool) (xs : List X) (place : ℕ) (x : X) → place < length xs → get_or xs place x ≡ x → p x ≡ true → ((k : ℕ) → k < place → p (get_or xs k x) ≡ false) → find p xs ≡ Some x
find_first p [] place x within here passes others = absurd (omega arith)
find_first p (y ∷ ys) zero x within here passes others = rw (here, passes) refl
find_first p (y ∷ ys) (suc place) x within here passes others =
    let fails : p y ≡ false = others 0 (omega arith) in
    rw fails (find_first p ys place x (omega arith) here passes (λ k less. others (suc k) (omega arith)))

list_all_true : {X : Type 0} (p : X → Bool) (xs : List X) → All (λ x. p x ≡ true) xs → list_all p xs ≡ true
list_all_true p [] all = refl
list_all_true p (x ∷ xs) all = and_from _ _ (All-head (λ y. p y ≡ true) x xs all) (list_all_true p xs (All-tail (λ y. p y ≡ true) x xs all))

-- the first of all is what a search finds that asks whether none is before it
pub find_is_first : (claims : List HeldClaim) (first : Option HeldClaim) → IsFirstOf claims first → find (λ held. list_all (λ other. not (is_before other.0 held.0)) claims) claims ≡ first
find_is_first claims None empty = rw empty refl
find_is_first claims (Some first) (place, within, here, front, all) = find_first (λ held. list_all (λ other. not (is_before other.0 held.0)) claims) claims place first within here
    (list_all_true _ claims (λ k other in_range. ap not (all k other in_range)))
    (λ k less. list_all_at (λ other. not (is_before other.0 (get_or claims k first).0)) claims place first within (ap not (subst (λ one. is_before one.0 (get_or claims k first).0 ≡ true) (sym here) (front k less))))

module _ (claims : List HeldClaim) (held : HeldClaim) where
  -- one more that is not before the first leaves it
  pub first_stays : (first : HeldClaim) → is_before held.0 first.0 ≡ false → IsFirstOf claims (Some first) → IsFirstOf (claims ++ held ∷ []) (Some first)
  first_stays first late (place, within, here, front, all) = (place, length_more, stays place within ∙ here, (λ k less. rw (stays_at k (omega arith) first) (front k less)), All-push (λ one. is_before one.0 first.0 ≡ false) claims held all late)
    where
      length_more : place < length (claims ++ held ∷ [])
      length_more = simp length-append (omega arith)

      stays_at : (k : ℕ) → k < length claims → (other : HeldClaim) → get_or (claims ++ held ∷ []) k other ≡ get_or claims k other
      stays_at k less other = get_or_append_left claims (held ∷ []) other k less

      stays : (k : ℕ) → k < length claims → get_or (claims ++ held ∷ []) k first ≡ get_or claims k first
      stays k less = stays_at k less first

  -- one that is before the first takes its place
  pub first_changes : (first : HeldClaim) → is_before held.0 first.0 ≡ true → IsFirstOf claims (Some first) → IsFirstOf (claims ++ held ∷ []) (Some held)
  first_changes first early (place, within, here, front, all) = (length claims, length_more, last, (λ k less. rw (get_or_append_left claims (held ∷ []) held k less) (before_either held.0 first.0 (get_or claims k held).0 early (all k held less))), All-push (λ one. is_before one.0 held.0 ≡ false) claims held none_before (not_before_itself held.0))
    where
      apart : (b : Bool) → b ≡ true → b ≡ false → ⊥
      apart b yields fails = let wrong : true ≡ false = cc in cc

      length_more : length claims < length (claims ++ held ∷ [])
      length_more = simp length-append (omega arith)

      last : get_or (claims ++ held ∷ []) (length claims) held ≡ held
      last = get_or_at claims held [] held (length claims) refl

      none_before : All (λ one. is_before one.0 held.0 ≡ false) claims
      none_before k other in_range = false_when_not (is_before (get_or claims k other).0 held.0) (λ test. apart (is_before (get_or claims k other).0 first.0) (before_both (get_or claims k other).0 held.0 first.0 test early) (all k other in_range))

  -- the first of none and one more
  pub first_alone : claims ≡ [] → IsFirstOf (claims ++ held ∷ []) (Some held)
  first_alone empty = rw empty (0, omega arith, refl, (λ k less. absurd (omega arith)), All-push (λ one. is_before one.0 held.0 ≡ false) [] held (All-nil (λ one. is_before one.0 held.0 ≡ false)) (not_before_itself held.0))

-- each list has a first
first_more : (claims : List HeldClaim) (held : HeldClaim) (first : Option HeldClaim) → IsFirstOf claims first → (next : Option HeldClaim) × IsFirstOf (claims ++ held ∷ []) next
first_more claims held None empty = (Some held, first_alone claims held empty)
first_more claims held (Some first) is_first = elim (cases_Bool (is_before held.0 first.0)) [
  | inl early ↦ (Some held, first_changes claims held first early is_first)
  | inr late ↦ (Some first, first_stays claims held first late is_first)
]

first_onward : (rest claims : List HeldClaim) (first : Option HeldClaim) → IsFirstOf claims first → (last : Option HeldClaim) × IsFirstOf (claims ++ rest) last
first_onward [] claims first is_first = (first, subst (λ all. IsFirstOf all first) (sym (append-nil claims)) is_first)
first_onward (held ∷ rest) claims first is_first =
    let next = first_more claims held first is_first in
    let last = first_onward rest (claims ++ held ∷ []) next.0 next.1 in
    (last.0, subst (λ all. IsFirstOf all last.0) (append_assoc claims (held ∷ []) rest) last.1)

pub first_exists : (claims : List HeldClaim) → (first : Option HeldClaim) × IsFirstOf claims first
first_exists claims = first_onward claims [] None refl

-- where a search finds no first, there is no claim
pub none_when_no_first : (claims : List HeldClaim) → find (λ held. list_all (λ other. not (is_before other.0 held.0)) claims) claims ≡ None → claims ≡ []
none_when_no_first claims none =
    let first = first_exists claims in
    let nothing : first.0 ≡ None = sym (find_is_first claims first.0 first.1) ∙ none in
    subst (IsFirstOf claims) nothing first.1
