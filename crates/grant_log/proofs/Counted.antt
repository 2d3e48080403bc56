-- How often a zone stands in a list.
use Rattle.std.proofs.Common.{◌≡◌, ◌≢◌, ℕ, zero, suc, ◌+◌, ◌-◌, ◌<◌, ◌≤◌, true, false, nat_eq, if◌then◌else◌, List, [], ◌∷◌, length, map, take, get_or, All, length-take, sym, ap, subst, refl, ◌∙◌, arith}
use Rattle.std.proofs.lemmas.Bool.Decides.{nat_tests}
use Rattle.std.proofs.lemmas.List.{get_or_default, take_more, get_or-take}
use Rattle.std.proofs.lemmas.List.Elements.{All-head, All-tail}
use Rattle.std.proofs.lemmas.List.Sums.{sum_by-append, sum_by-cons}
use Rattle.std.specs.List.Sorted.{IsSorted}
use Rattle.std.specs.Ordering.{is_lt, nat_cmp}
use Rattle.rail_types.specs.Occupation.{HeldClaim}
use Rattle.grant_log.specs.Rooms.{AreAscending, count_of, how_many_on, if_on}

same_number : (a b : ℕ) → nat_eq a b ≡ true → a ≡ b
same_number a b test = grind (arith, nat_tests)

abbrev pub one_if : ℕ → ℕ → ℕ
one_if number zone = if nat_eq zone number then 1 else 0

one_if_same : (number zone : ℕ) → zone ≡ number → one_if number zone ≡ 1
one_if_same number zone same = let test : nat_eq zone number ≡ true = grind (arith, nat_tests) in rw test refl

one_if_other : (number zone : ℕ) → zone ≢ number → one_if number zone ≡ 0
one_if_other number zone other = let test : nat_eq zone number ≡ false = grind (arith, nat_tests) in rw test refl

pub count_none : (number : ℕ) (zones : List ℕ) → All (λ zone. zone ≢ number) zones → count_of number zones ≡ 0
count_none number [] all = refl
count_none number (zone ∷ zones) all = sum_by-cons (one_if number) zone zones ∙ (λ i. one_if_other number zone (All-head (λ it. it ≢ number) zone zones all) i + count_none number zones (All-tail (λ it. it ≢ number) zone zones all) i)

count_more : (number : ℕ) (zones : List ℕ) (at d : ℕ) → at < length zones → count_of number (take (at + 1) zones) ≡ count_of number (take at zones) + one_if number (get_or zones at d)
count_more number zones at d within = ap (count_of number) (take_more zones at d within) ∙ sum_by-append (one_if number) (take at zones) (get_or zones at d ∷ []) ∙ ap (λ n. count_of number (take at zones) + n) (sum_by-cons (one_if number) (get_or zones at d) [] ∙ omega arith)

pub count_more_same : (zones : List ℕ) (at d : ℕ) → at < length zones → count_of (get_or zones at d) (take (at + 1) zones) ≡ count_of (get_or zones at d) (take at zones) + 1
count_more_same zones at d within = count_more (get_or zones at d) zones at d within ∙ ap (λ n. count_of (get_or zones at d) (take at zones) + n) (one_if_same (get_or zones at d) (get_or zones at d) refl)

pub count_more_other : (number : ℕ) (zones : List ℕ) (at d : ℕ) → at < length zones → number ≢ get_or zones at d → count_of number (take (at + 1) zones) ≡ count_of number (take at zones)
count_more_other number zones at d within other = count_more number zones at d within ∙ ap (λ n. count_of number (take at zones) + n) (one_if_other number (get_or zones at d) (λ same. absurd (other (sym same)))) ∙ omega arith

-- the first of a zone in ascending order stands behind none of it
pub count_first : (zones : List ℕ) (at d : ℕ) → AreAscending zones → at < length zones → (0 < at → get_or zones (at - 1) d ≢ get_or zones at d) → count_of (get_or zones at d) (take at zones) ≡ 0
count_first zones at d order within first = count_none (get_or zones at d) (take at zones) below
  where
    below : All (λ zone. zone ≢ get_or zones at d) (take at zones)
    below k e less same =
        let inside : k < at = omega (arith, length-take at zones) in
        let here : get_or (take at zones) k e ≡ get_or zones k d = get_or-take at zones k e inside ∙ get_or_default zones k e d (omega arith) in
        let up = order k (at - 1) d (omega arith) (omega arith) in
        let on = order (at - 1) at d (omega arith) within in
        let wrong : get_or zones (at - 1) d ≡ get_or zones at d = omega (arith, up, on, here, same) in
        absurd (first (omega arith) wrong)

-- the zones of claims
pub count_zones : (number : ℕ) (claims : List HeldClaim) → count_of number (map (λ one. one.0.zone) claims) ≡ how_many_on number claims
count_zones number [] = refl
count_zones number (one ∷ claims) = sum_by-cons (one_if number) one.0.zone (map (λ it. it.0.zone) claims) ∙ ap (λ n. one_if number one.0.zone + n) (count_zones number claims) ∙ sym (sum_by-cons (if_on number) one claims)

-- room for claims of which the first is held
pub room_same : (number : ℕ) (one : HeldClaim) (claims : List HeldClaim) → one.0.zone ≡ number → how_many_on number (one ∷ claims) ≡ how_many_on number claims + 1
room_same number one claims same = sum_by-cons (if_on number) one claims ∙ ap (λ n. n + how_many_on number claims) (one_if_same number one.0.zone same) ∙ omega arith

pub room_other : (number : ℕ) (one : HeldClaim) (claims : List HeldClaim) → one.0.zone ≢ number → how_many_on number (one ∷ claims) ≡ how_many_on number claims
room_other number one claims other = sum_by-cons (if_on number) one claims ∙ ap (λ n. n + how_many_on number claims) (one_if_other number one.0.zone other) ∙ omega arith

-- what a sort leaves
at_least : (a b : ℕ) → is_lt (nat_cmp a b) ≡ false → b ≤ a
at_least a b none = grind (arith, nat_tests)

rises_by : (zones : List ℕ) → IsSorted nat_cmp zones → (i more d : ℕ) → i + more < length zones → get_or zones i d ≤ get_or zones (i + more) d
rises_by zones sorted i zero d within = let same : i + 0 ≡ i = omega arith in rw same (omega arith)
rises_by zones sorted i (suc more) d within =
    let next : i + suc more ≡ i + more + 1 = omega arith in
    let step = at_least (get_or zones (i + more + 1) d) (get_or zones (i + more) d) (sorted (i + more) d (omega arith) (omega arith)) in
    rw next (omega (arith, step, rises_by zones sorted i more d (omega arith)))

pub ascending : (zones : List ℕ) → IsSorted nat_cmp zones → AreAscending zones
ascending zones sorted i j d from within = let here : i + (j - i) ≡ j = omega arith in subst (λ n. get_or zones i d ≤ get_or zones n d) here (rises_by zones sorted i (j - i) d (omega arith))
