-- Places of the lines of a list: whose they are, and how workers share them.
use Rattle.std.proofs.Common.{◌≡◌, ◌≢◌, ℕ, zero, suc, ◌+◌, ◌<◌, ◌≤◌, Bool, true, false, cond, not}
use Rattle.std.proofs.Common.{◌||◌, All, List, [], ◌∷◌, ◌++◌, IsPermutation, Option, None, Some}
use Rattle.std.proofs.Common.{IfSome, filter, flat_map, get_or, is_none, is_some, length, ap, sym}
use Rattle.std.proofs.Common.{◌∙◌, subst, refl, arith, length-append, ⊎_elim, true≢false}
use Rattle.std.proofs.lemmas.Bool.{eqb-true, ne_eqb}
use Rattle.std.proofs.lemmas.Bool.Decides.{eqb_tells}
use Rattle.std.proofs.lemmas.List.{length-map}
use Rattle.std.proofs.lemmas.List.Elements.{All-cons, All-head, All-nil, All-tail}
use Rattle.std.proofs.lemmas.List.FromFn.{get_or-range_with_len, length-range_with_len}
use Rattle.std.proofs.lemmas.List.Sorted.{IsPermutation-append_right, IsPermutation-cons}
use Rattle.std.proofs.lemmas.List.Sorted.{IsPermutation-filter_both, IsPermutation-middle}
use Rattle.std.proofs.lemmas.List.Sorted.{IsPermutation-refl, IsPermutation-sym}
use Rattle.std.proofs.lemmas.List.Sorted.{IsPermutation-trans, length_permutation}
use Rattle.std.specs.List.{range_with_len}
use Rattle.batch_command.specs.Batches.{is_of, own_places}
use Rattle.batch_command.specs.Clerks.{free_places, owned_places}
use Rattle.served_clients.proofs.Owned.{All-filtered, filter-alike, filter-append}
use Rattle.batch_command.specs.InOrder.{places}
use Rattle.served_clients.specs.lines.declared.reply_texts.replies.Reply.{Reply}

-- ---- filters

pub map_filter : (p : ℕ → Bool) (answers : List (ℕ × Reply)) → places (filter (λ a. p a.0) answers) ≡ filter p (places answers)
map_filter p [] = refl
map_filter p ((at, r) ∷ answers) = with_first (p at) (map_filter p answers)
  where
    with_first : (b : Bool) → places (filter (λ a. p a.0) answers) ≡ filter p (places answers)
        → places (cond b ((at, r) ∷ filter (λ a. p a.0) answers) (filter (λ a. p a.0) answers)) ≡ cond b (at ∷ filter p (places answers)) (filter p (places answers))
    with_first true rest = ap (λ l. at ∷ l) rest
    with_first false rest = rest

pub filter_within : {X : Type 0} (p q : X → Bool) → ((x : X) → q x ≡ false → p x ≡ false) → (xs : List X) → filter p (filter q xs) ≡ filter p xs
filter_within p q weaker [] = refl
filter_within p q weaker (x ∷ xs) = with_first (q x) refl (filter_within p q weaker xs)
  where
    with_first : (b : Bool) → q x ≡ b → filter p (filter q xs) ≡ filter p xs → filter p (cond b (x ∷ filter q xs) (filter q xs)) ≡ cond (p x) (x ∷ filter p xs) (filter p xs)
    with_first true is rest = ap (λ l. cond (p x) (x ∷ l) l) rest
    with_first false is rest = rest ∙ ap (λ b. cond b (x ∷ filter p xs) (filter p xs)) (sym (weaker x is))

-- what passes one of two tests that exclude one another passes the first or the second
pub filter_either : {X : Type 0} (p q r : X → Bool) → ((x : X) → r x ≡ (p x || q x)) → ((x : X) → p x ≡ true → q x ≡ false) → (xs : List X)
    → IsPermutation (filter p xs ++ filter q xs) (filter r xs)
filter_either p q r either apart [] = IsPermutation-refl []
filter_either {X} p q r either apart (x ∷ xs) =
    subst (λ b. IsPermutation (cond (p x) (x ∷ filter p xs) (filter p xs) ++ cond (q x) (x ∷ filter q xs) (filter q xs)) (cond b (x ∷ filter r xs) (filter r xs))) (sym (either x))
    (with_both (p x) (q x) (apart x) (filter_either p q r either apart xs))
  where
    with_both : (a b : Bool) → (a ≡ true → b ≡ false) → IsPermutation (filter p xs ++ filter q xs) (filter r xs)
        → IsPermutation (cond a (x ∷ filter p xs) (filter p xs) ++ cond b (x ∷ filter q xs) (filter q xs)) (cond (a || b) (x ∷ filter r xs) (filter r xs))
    with_both true true differ rest = absurd (true≢false (differ refl))
    with_both true false differ rest = IsPermutation-cons x (filter p xs ++ filter q xs) (filter r xs) rest
    with_both false true differ rest = IsPermutation-trans (filter p xs ++ x ∷ filter q xs) (x ∷ (filter p xs ++ filter q xs)) (x ∷ filter r xs)
        (IsPermutation-middle (filter p xs) x (filter q xs)) (IsPermutation-cons x (filter p xs ++ filter q xs) (filter r xs) rest)
    with_both false false differ rest = rest

-- ---- owners

-- whether the owner is one of so many workers from this one on
abbrev is_from : ℕ → ℕ → Option ℕ → Bool
is_from first zero owner = false
is_from first (suc more) owner = is_of first owner || is_from (first + 1) more owner

is_of-is : (k v : ℕ) → is_of k (Some v) ≡ true → v ≡ k
is_of-is k v e = eqb-true v k e

is_of-other : (k v : ℕ) → v ≢ k → is_of k (Some v) ≡ false
is_of-other k v other = ne_eqb v k other

none_from : (first more v : ℕ) → v < first → is_from first more (Some v) ≡ false
none_from first zero v less = refl
none_from first (suc more) v less =
    ap (λ b. b || is_from (first + 1) more (Some v)) (is_of-other first v (λ e. omega (arith, e, less))) ∙ none_from (first + 1) more v (omega arith)

is_of_not_from : (first more : ℕ) (owner : Option ℕ) → is_of first owner ≡ true → is_from (first + 1) more owner ≡ false
is_of_not_from first more None e = cc
is_of_not_from first more (Some v) e = let is = is_of-is first v e in none_from (first + 1) more v (omega arith)

some_from : (first more v : ℕ) → first ≤ v → v < first + more → is_from first more (Some v) ≡ true
some_from first zero v least below = absurd (omega arith)
some_from first (suc more) v least below =
    ⊎_elim (λ is. ap (λ b. b || is_from (first + 1) more (Some v)) is.0)
    (λ other. ap (λ b. b || is_from (first + 1) more (Some v)) other.0 ∙ some_from (first + 1) more v (omega (arith, other.1)) (omega arith))
    (eqb_tells v first)

none_of : (first more : ℕ) → is_from first more None ≡ false
none_of first zero = refl
none_of first (suc more) = none_of (first + 1) more

filter_none : {X : Type 0} (xs : List X) → filter (λ x. false) xs ≡ []
filter_none [] = refl
filter_none (x ∷ xs) = filter_none xs

module _ (owner : ℕ → Option ℕ) where
  -- the places of each of the workers, together
  parts_of : (first more : ℕ) (xs : List ℕ)
      → IsPermutation (flat_map (λ k. filter (λ x. is_of k (owner x)) xs) (range_with_len first more)) (filter (λ x. is_from first more (owner x)) xs)
  parts_of first zero xs = subst (IsPermutation []) (sym (filter_none xs)) (IsPermutation-refl [])
  parts_of first (suc more) xs =
      let mine : List ℕ = filter (λ x. is_of first (owner x)) xs in
      let others : List ℕ = flat_map (λ k. filter (λ x. is_of k (owner x)) xs) (range_with_len (first + 1) more) in
      IsPermutation-trans (mine ++ others) (mine ++ filter (λ x. is_from (first + 1) more (owner x)) xs) (filter (λ x. is_from first (suc more) (owner x)) xs)
      (IsPermutation-append_right mine others (filter (λ x. is_from (first + 1) more (owner x)) xs) (parts_of (first + 1) more xs))
      (filter_either (λ x. is_of first (owner x)) (λ x. is_from (first + 1) more (owner x)) (λ x. is_from first (suc more) (owner x)) (λ x. refl)
      (λ x. is_of_not_from first more (owner x)) xs)

  -- the places of all workers, where each owner is one of them
  pub owned_parts : (count : ℕ) (xs : List ℕ) → All (λ x. IfSome (owner x) (λ worker. worker < count)) xs
      → IsPermutation (flat_map (λ k. filter (λ x. is_of k (owner x)) xs) (range_with_len 0 count)) (filter (λ x. is_some (owner x)) xs)
  owned_parts count xs theirs =
      subst (IsPermutation (flat_map (λ k. filter (λ x. is_of k (owner x)) xs) (range_with_len 0 count)))
      (filter-alike (λ x. is_from 0 count (owner x)) (λ x. is_some (owner x)) xs (all_from xs theirs))
      (parts_of 0 count xs)
    where
      from : (one : Option ℕ) → IfSome one (λ worker. worker < count) → is_from 0 count one ≡ is_some one
      from None within = none_of 0 count
      from (Some v) within = some_from 0 count v (omega arith) (omega (arith, within))

      all_from : (ys : List ℕ) → All (λ x. IfSome (owner x) (λ worker. worker < count)) ys → All (λ x. is_from 0 count (owner x) ≡ is_some (owner x)) ys
      all_from [] each = All-nil (λ x. is_from 0 count (owner x) ≡ is_some (owner x))
      all_from (y ∷ ys) each =
          All-cons (λ x. is_from 0 count (owner x) ≡ is_some (owner x)) y ys
          (from (owner y) (All-head (λ x. IfSome (owner x) (λ worker. worker < count)) y ys each))
          (all_from ys (All-tail (λ x. IfSome (owner x) (λ worker. worker < count)) y ys each))

not_some : (owner : Option ℕ) → is_none owner ≡ not (is_some owner)
not_some None = refl
not_some (Some v) = refl

-- each place is some worker's, or it is free
pub owned_and_free : (owners : List (Option ℕ)) → IsPermutation (owned_places owners ++ free_places owners) (range_with_len 0 (length owners))
owned_and_free owners =
    IsPermutation-sym (range_with_len 0 (length owners)) (owned_places owners ++ free_places owners)
    (IsPermutation-filter_both (λ at. is_some (get_or owners at None)) (λ at. is_none (get_or owners at None)) (λ at. not_some (get_or owners at None)) (range_with_len 0 (length owners)))

-- as many lines are free as are left once those of the workers were answered
pub free_count : (owners : List (Option ℕ)) (kept : List (ℕ × Reply)) → places kept ≡ owned_places owners → length (free_places owners) + length kept ≡ length owners
free_count owners kept are =
    let both = length_permutation (owned_places owners ++ free_places owners) (range_with_len 0 (length owners)) (owned_and_free owners) in
    let size = length-range_with_len 0 (length owners) in
    let parts = length-append (owned_places owners) (free_places owners) in
    let same : length (places kept) ≡ length (owned_places owners) = ap length are in
    let long = length-map kept (λ (a : ℕ × Reply). a.0) in omega arith

pub free_below : (owners : List (Option ℕ)) → All (λ at. at < length owners) (free_places owners)
free_below owners =
    All-filtered (λ at. is_none (get_or owners at None)) (λ at. at < length owners) (range_with_len 0 (length owners))
    (λ k d below.
    let size = length-range_with_len 0 (length owners) in
    let here : get_or (range_with_len 0 (length owners)) k d ≡ 0 + k = get_or-range_with_len 0 (length owners) k d (omega arith) in omega arith)

-- each place that is some worker's is its
pub all_own : (count : ℕ) (owners : List (Option ℕ)) → All (λ owner. IfSome owner (λ worker. worker < count)) owners
    → IsPermutation (flat_map (own_places owners) (range_with_len 0 count)) (owned_places owners)
all_own count owners theirs =
    owned_parts (λ at. get_or owners at None) count (range_with_len 0 (length owners))
    (λ k d below.
    let size = length-range_with_len 0 (length owners) in
    let here : get_or (range_with_len 0 (length owners)) k d ≡ 0 + k = get_or-range_with_len 0 (length owners) k d (omega arith) in
    let is : k ≡ get_or (range_with_len 0 (length owners)) k d = omega arith in
    subst (λ at. IfSome (get_or owners at None) (λ worker. worker < count)) is (theirs k None (omega arith)))

-- ---- one place more

range_more : (a n : ℕ) → range_with_len a (n + 1) ≡ range_with_len a n ++ (a + n) ∷ []
range_more a zero = let same : a ≡ a + 0 = omega arith in ap (λ k. k ∷ []) same
range_more a (suc n) =
    let next : suc n + 1 ≡ suc (n + 1) = omega arith in let same : a + 1 + n ≡ a + suc n = omega arith in
    ap (range_with_len a) next ∙ ap (λ l. a ∷ l) (range_more (a + 1) n ∙ ap (λ k. range_with_len (a + 1) n ++ k ∷ []) same)

pub filter_more : (p : ℕ → Bool) (n : ℕ) (b : Bool) → p n ≡ b → filter p (range_with_len 0 (n + 1)) ≡ filter p (range_with_len 0 n) ++ cond b (n ∷ []) []
filter_more p n b is =
    let same : 0 + n ≡ n = omega arith in
    ap (filter p) (range_more 0 n ∙ ap (λ k. range_with_len 0 n ++ k ∷ []) same)
    ∙ filter-append p (range_with_len 0 n) (n ∷ [])
    ∙ ap (λ c. filter p (range_with_len 0 n) ++ cond c (n ∷ []) []) is

pub none_is : (owner : Option ℕ) (r : Bool) → is_some owner ≡ not r → is_none owner ≡ r
none_is None true e = refl
none_is None false e = absurd (true≢false (sym e))
none_is (Some v) true e = absurd (true≢false e)
none_is (Some v) false e = refl
