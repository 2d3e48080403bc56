-- The points passed are those that stand at the places, each once and in order.
use Rattle.std.proofs.Common.{◌≡◌, ◌∙◌, ℕ, zero, suc, ◌+◌, ◌-◌, ◌<◌, ◌≤◌, ◌⊎◌, List, [], ◌∷◌, length, get_or, map, Option, Some, None, refl, sym, ap, subst, inl, inr, arith}
use Rattle.std.proofs.lemmas.Bool.{cases_lt}
use Rattle.std.proofs.lemmas.List.{length-map}
use Rattle.std.specs.Prelude.{slice_get}
use Rattle.std.specs.List.{All, AllPairs, cons_option, filter_map}
use Rattle.rail_types.specs.declared.infra_types.routes.Route.{Route}
use Rattle.route_walk.specs.declared.places.Place.{Place}
use Rattle.route_walk.specs.declared.walks.Passed.{Passed}
use Rattle.route_walk.specs.Legs.{ArePassed, first_number, metres_to, number_at, numbers_at}

-- the numbers that there are
abbrev somes : List (Option ℕ) → List ℕ
somes numbers = filter_map (λ (number : Option ℕ). number) numbers

-- one of these numbers, the first of which stands at a reach
record StandsAt (numbers : List (Option ℕ)) (first : ℕ) (one : Passed) : Type 0 where
  low : first ≤ one.reach
  here : slice_get numbers (one.reach - first) ≡ Some (Some one.point)

behind : (number : Option ℕ) (numbers : List (Option ℕ)) (first : ℕ) (one : Passed) → StandsAt (number ∷ numbers) first one → first < one.reach → StandsAt numbers (first + 1) one
behind number numbers first one stands less =
    let e : one.reach - first ≡ suc (one.reach - (first + 1)) = omega arith in
    record { low = omega arith; here = sym (ap (slice_get (number ∷ numbers)) e) ∙ stands.here }

at_first : (number : Option ℕ) (numbers : List (Option ℕ)) (first : ℕ) (one : Passed) → StandsAt (number ∷ numbers) first one → one.reach ≡ first → number ≡ Some one.point
at_first number numbers first one stands same =
    let e : one.reach - first ≡ 0 = omega arith in
    let got = sym (ap (slice_get (number ∷ numbers)) e) ∙ stands.here in
    (cc)

-- those that stand behind the first number
all_behind : (number : Option ℕ) (numbers : List (Option ℕ)) (first : ℕ) (ones : List Passed) → All (StandsAt (number ∷ numbers) first) ones → All (λ (one : Passed). first < one.reach) ones → All (StandsAt numbers (first + 1)) ones
all_behind number numbers first ones stand less k d h = behind number numbers first (get_or ones k d) (stand k d h) (less k d h)

none_first : (numbers : List (Option ℕ)) (first : ℕ) (one : Passed) → StandsAt (None ∷ numbers) first one → first < one.reach
none_first numbers first one stands = elim (cases_lt first one.reach) [
  | inl less ↦ less
  | inr more ↦ (let low = stands.low in let none = at_first None numbers first one stands (omega arith) in absurd (cc))
]

abbrev Ascends : List Passed → Type 0
Ascends ones = AllPairs (λ (one later : Passed). one.reach < later.reach) ones

tail_of : (P : Passed → Type 0) (one : Passed) (ones : List Passed) → All P (one ∷ ones) → All P ones
tail_of P one ones all k d h = all (suc k) d (omega arith)

ascends_on : (one : Passed) (ones : List Passed) → Ascends (one ∷ ones) → Ascends ones
ascends_on one ones up i j d less h = up (suc i) (suc j) d (omega arith) (omega arith)

all_above : (one : Passed) (ones : List Passed) (low : ℕ) → Ascends (one ∷ ones) → low ≤ one.reach → All (λ (later : Passed). low < later.reach) ones
all_above one ones low up least k d h = (let more = up 0 (suc k) d (omega arith) (omega arith) in omega arith)

above_too : (one : Passed) (ones : List Passed) (low : ℕ) → Ascends (one ∷ ones) → low < one.reach → All (λ (later : Passed). low < later.reach) (one ∷ ones)
above_too one ones low up least zero d h = least
above_too one ones low up least (suc k) d h = (let more = up 0 (suc k) d (omega arith) (omega arith) in omega arith)

-- they are no more than the numbers that there are
few : (numbers : List (Option ℕ)) (first : ℕ) (ones : List Passed) → All (StandsAt numbers first) ones → Ascends ones → length ones ≤ length (somes numbers)
few numbers first [] stand up = omega arith
few [] first (one ∷ ones) stand up = absurd (let here = (stand 0 one (omega arith)).here in cc)
few (None ∷ numbers) first (one ∷ ones) stand up =
    few numbers (first + 1) (one ∷ ones) (all_behind None numbers first (one ∷ ones) stand (λ k d h. none_first numbers first (get_or (one ∷ ones) k d) (stand k d h))) up
few (Some number ∷ numbers) first (one ∷ ones) stand up =
    let low = (stand 0 one (omega arith)).low in
    let rest = few numbers (first + 1) ones (all_behind (Some number) numbers first ones (tail_of (StandsAt (Some number ∷ numbers) first) one ones stand) (all_above one ones first up low)) (ascends_on one ones up) in
    omega arith

-- as many as there are numbers, the first of them stands at the first number
stands_first : (number : ℕ) (numbers : List (Option ℕ)) (first : ℕ) (one : Passed) (ones : List Passed) → All (StandsAt (Some number ∷ numbers) first) (one ∷ ones) → Ascends (one ∷ ones) → length (one ∷ ones) ≡ length (somes (Some number ∷ numbers)) → one.reach ≡ first
stands_first number numbers first one ones stand up many = elim (cases_lt first one.reach) [
  | inl less ↦
      let all = few numbers (first + 1) (one ∷ ones) (all_behind (Some number) numbers first (one ∷ ones) stand (above_too one ones first up less)) up in
      absurd (omega arith)
  | inr more ↦ (let low = (stand 0 one (omega arith)).low in omega arith)
]

abbrev passed_of : ℕ → ℕ → ℕ → Passed
passed_of point metres reach = record { point = point; metres = metres; reach = reach }

same_passed : (one other : Passed) → one.point ≡ other.point → one.metres ≡ other.metres → one.reach ≡ other.reach → one ≡ other
same_passed one other p m r =
    ap (λ (n : ℕ). passed_of n one.metres one.reach) p
    ∙ (ap (λ (n : ℕ). passed_of other.point n one.reach) m ∙ ap (λ (n : ℕ). passed_of other.point other.metres n) r)

some_same : (a b : ℕ) → ◌≡◌ {A = Option ℕ} (Some a) (Some b) → a ≡ b
some_same a b e = (cc)

module _ (places : List Place) where
  abbrev Measured : Passed → Type 0
  Measured one = one.metres ≡ metres_to places one.reach

  same_ones : (numbers : List (Option ℕ)) (first : ℕ) (ones others : List Passed) → All (StandsAt numbers first) ones → All (StandsAt numbers first) others → Ascends ones → Ascends others
      → All Measured ones → All Measured others → length ones ≡ length (somes numbers) → length others ≡ length (somes numbers) → ones ≡ others
  same_ones [] first [] [] s s' u u' m m' n n' = refl
  same_ones [] first (one ∷ ones) others s s' u u' m m' n n' = absurd (omega arith)
  same_ones [] first [] (other ∷ others) s s' u u' m m' n n' = absurd (omega arith)
  same_ones (None ∷ numbers) first ones others s s' u u' m m' n n' =
      same_ones numbers (first + 1) ones others
      (all_behind None numbers first ones s (λ k d h. none_first numbers first (get_or ones k d) (s k d h)))
      (all_behind None numbers first others s' (λ k d h. none_first numbers first (get_or others k d) (s' k d h))) u u' m m' n n'
  same_ones (Some number ∷ numbers) first [] others s s' u u' m m' n n' = absurd (omega arith)
  same_ones (Some number ∷ numbers) first (one ∷ ones) [] s s' u u' m m' n n' = absurd (omega arith)
  same_ones (Some number ∷ numbers) first (one ∷ ones) (other ∷ others) s s' u u' m m' n n' =
      let r = stands_first number numbers first one ones s u n in
      let r' = stands_first number numbers first other others s' u' n' in
      let p = some_same number one.point (at_first (Some number) numbers first one (s 0 one (omega arith)) r) in
      let p' = some_same number other.point (at_first (Some number) numbers first other (s' 0 other (omega arith)) r') in
      let reach : one.reach ≡ other.reach = r ∙ sym r' in
      let metres : one.metres ≡ other.metres = m 0 one (omega arith) ∙ ap (metres_to places) reach ∙ sym (m' 0 other (omega arith)) in
      let head = same_passed one other (sym p ∙ p') metres reach in
      let low = (s 0 one (omega arith)).low in
      let low' = (s' 0 other (omega arith)).low in
      let rest = same_ones numbers (first + 1) ones others
      (all_behind (Some number) numbers first ones (tail_of (StandsAt (Some number ∷ numbers) first) one ones s) (all_above one ones first u low))
      (all_behind (Some number) numbers first others (tail_of (StandsAt (Some number ∷ numbers) first) other others s') (all_above other others first u' low'))
      (ascends_on one ones u) (ascends_on other others u') (tail_of Measured one ones m) (tail_of Measured other others m') (omega arith) (omega arith) in
      ap (λ (x : Passed). x ∷ ones) head ∙ ap (λ (xs : List Passed). other ∷ xs) rest

numbers_there : (f : Place → Option ℕ) (places : List Place) → somes (map f places) ≡ filter_map f places
numbers_there f [] = refl
numbers_there f (p ∷ ps) = ap (cons_option (f p)) (numbers_there f ps)

module _ (detectors : ℕ) (route : Route) (places : List Place) where
  all_stand : (passed : List Passed) → ArePassed detectors route places passed → All (StandsAt (numbers_at detectors route places) 0) passed
  all_stand passed are k d h =
      let e : (get_or passed k d).reach - 0 ≡ (get_or passed k d).reach = omega arith in
      record { low = omega arith; here = ap (slice_get (numbers_at detectors route places)) e ∙ are.stand k d h }

  as_many : (passed : List Passed) → ArePassed detectors route places passed → length passed ≡ length (somes (numbers_at detectors route places))
  as_many passed are =
      let long = length-map passed (λ (one : Passed). one.point) in
      let all = ap length are.points in
      let same = ap length (numbers_there (number_at detectors route.exit) places) in
      omega arith

  pub one_passed : (one other : List Passed) → ArePassed detectors route places one → ArePassed detectors route places other → one ≡ other
  one_passed one other are are' =
      same_ones places (numbers_at detectors route places) 0 one other (all_stand one are) (all_stand other are') are.order are'.order are.metres are'.metres (as_many one are) (as_many other are')
