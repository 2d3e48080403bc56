-- Where the moves that would end a path are shut, no path of the plan fits.
use Rattle.std.proofs.Common.{◌≡◌, ◌∙◌, ℕ, suc, zero, ◌+◌, ◌-◌, ◌*◌, ◌/◌, ◌%◌, ◌<◌, ◌≤◌, List, [], ◌∷◌, ◌++◌, length, map, filter, get_or, All, Bool, true, false, cond, not, ◌&&◌, ◌||◌, nat_le, if◌then◌else◌, sym, ap, subst, refl, append-nil, arith, inl, inr}
use Rattle.std.specs.Prelude.{ℤ, pos, ◌+ℤ◌, ◌-ℤ◌, ◌≤ℤ◌}
use Rattle.std.specs.Int.{int_max, int_min}
use Rattle.std.specs.List.{range_with_len}
use Rattle.std.proofs.lemmas.Int.{ints, clamps}
use Rattle.std.proofs.lemmas.Bool.{and_from, and_parts, cases_lt, le-leb, leb-true}
use Rattle.std.proofs.lemmas.Nat.{div-mul-add, mod-mul-add, div_below, mod_below}
use Rattle.std.proofs.lemmas.List.{get_or_past, get_or-map, length-map}
use Rattle.std.proofs.lemmas.List.Elements.{All-nil, All-cons, All-head, All-tail, All-get_or, All-filter, filter-append, filter_passes}
use Rattle.std.proofs.lemmas.List.Folds.{list_any_at}
use Rattle.std.proofs.lemmas.List.FromFn.{get_or-range_with_len, get_or-map-range_with_len, length-range_with_len, length-map-range_with_len}
use Rattle.rail_types.specs.declared.paths.Claim.{Claim}
use Rattle.rail_types.specs.declared.paths.Window.{Window}
use Rattle.free_windows.specs.Free.{Holds}
use Rattle.label_search.specs.declared.charts.ChartCall.{ChartCall}
use Rattle.label_search.specs.declared.charts.ChartSpot.{ChartSpot}
use Rattle.label_search.specs.declared.charts.ChartWay.{ChartWay}
use Rattle.label_search.specs.declared.plans.Move.{Move}
use Rattle.label_search.specs.declared.plans.Place.{Place}
use Rattle.label_search.specs.declared.plans.Plan.{Plan}
use Rattle.label_search.specs.declared.plans.Step.{Step}
use Rattle.label_search.specs.declared.plans.Target.{Target}
use Rattle.label_search.specs.declared.plans.Target.TheVariants.{Place as To, End}
use Rattle.label_search.specs.declared.plans.Trip.{Trip}
use Rattle.label_search.specs.Charts.{call_at, count_over, ends_path, is_called, is_open, made_behind, made_over, move_among, move_of_way, moves_over, number_over, open_among, open_ways, place_over, plan_over, spot_at, way_over, ways_over}
use Rattle.label_search.specs.Endings.{AreShut, AreShutFrom, CanEnd, CanEndFrom, IsShut, IsShutWay, ending_of, has_call, last_call, spots_before}
use Rattle.label_search.specs.Free.{Book, Fits}
use Rattle.label_search.specs.Limits.{least_wait}
use Rattle.label_search.specs.Nearing.{is_call}
use Rattle.label_search.specs.Paths.{Enters, IsMove, IsPath, IsRest, MoveFits, PathFits, Possible, RestFits, leave_of, move_at, place_at, target_of}
use Rattle.label_search.specs.Plans.{IsMoveOf, IsPlan, IsShort}
use Rattle.label_search.proofs.Exclusion.{waited}
use Rattle.label_search.proofs.Summing.{call_of_open, least_is, on_chart}

abbrev no_move : Move
no_move = record { target = End; run = pos 0; pieces = [] }

abbrev no_place : Place
no_place = record { standing = false; dwell = pos 0; waits = []; moves = [] }

abbrev no_way : ChartWay
no_way = record { block = 0; halts = false; next = 0; run = pos 0; pieces = []; ending = [] }

-- ---- lists

-- what holds of each element that a test keeps holds of each that passes it
module _ {X : Type 0} (p : X → Bool) (Q : X → Type 0) where
  first_passing : (x : X) (kept : List X) (passes : Bool) → passes ≡ p x → All Q (cond passes (x ∷ kept) kept) → (p x ≡ true → Q x) × All Q kept
  first_passing x kept true same all = ((λ is. All-head Q x kept all), All-tail Q x kept all)
  first_passing x kept false same all = ((λ is. absurd (cc)), all)

  all_passing : (xs : List X) → All Q (filter p xs) → All (λ x. p x ≡ true → Q x) xs
  all_passing [] all = All-nil (λ x. p x ≡ true → Q x)
  all_passing (x ∷ xs) all =
      let first = first_passing x (filter p xs) (p x) refl all in
      All-cons (λ x. p x ≡ true → Q x) x xs first.0 (all_passing xs first.1)

number_read : (count number d : ℕ) → number < count → get_or (range_with_len 0 count) number d ≡ number
number_read count number d within =
    let same : 0 + number ≡ number = omega arith in
    get_or-range_with_len 0 count number d within ∙ same

-- the same of the numbers below a count
number_passing : (p : ℕ → Bool) (Q : ℕ → Type 0) (count : ℕ) → All Q (filter p (range_with_len 0 count)) → (number : ℕ) → number < count → p number ≡ true → Q number
number_passing p Q count all number within passes =
    let inside : number < length (range_with_len 0 count) = subst (λ long. number < long) (sym (length-range_with_len 0 count)) within in
    let there : p (get_or (range_with_len 0 count) number 0) ≡ true → Q (get_or (range_with_len 0 count) number 0) = all_passing p Q (range_with_len 0 count) all number 0 inside in
    let here : p number ≡ true → Q number = subst (λ (n : ℕ). p n ≡ true → Q n) (number_read count number 0 within) there in
    here passes

numbers_all : (Q : ℕ → Type 0) (count : ℕ) → ((number : ℕ) → number < count → Q number) → All Q (range_with_len 0 count)
numbers_all Q count each k d inside =
    let within : k < count = subst (λ long. k < long) (length-range_with_len 0 count) inside in
    subst Q (sym (number_read count k d within)) (each k within)

all_mapped : {X Y : Type 0} (P : Y → Type 0) (f : X → Y) (xs : List X) → All P (map f xs) → All (λ x. P (f x)) xs
all_mapped P f xs all k d inside =
    subst P (get_or-map f xs k d (f d) inside) (all k (f d) (subst (λ long. k < long) (sym (length-map xs f)) inside))

-- a range that grows by one number
range_more : (from count next : ℕ) → from + count ≡ next → range_with_len from (suc count) ≡ range_with_len from count ++ next ∷ []
range_more from zero next is = let same : from ≡ next = omega arith in ap (λ n. n ∷ []) same
range_more from (suc count) next is = ap (λ ns. from ∷ ns) (range_more (from + 1) count next (omega arith))

pub filter_range_more : (p : ℕ → Bool) (n : ℕ) → filter p (range_with_len 0 (n + 1)) ≡ filter p (range_with_len 0 n) ++ cond (p n) (n ∷ []) []
filter_range_more p n =
    let on : n + 1 ≡ suc n = omega arith in
    let longer : range_with_len 0 (n + 1) ≡ range_with_len 0 n ++ n ∷ [] = ap (range_with_len 0) on ∙ range_more 0 n n (omega arith) in
    ap (filter p) longer ∙ filter-append p (range_with_len 0 n) (n ∷ [])

pub none_put : (called : Bool) (number : ℕ) (list : List ℕ) → called ≡ false → list ≡ list ++ (if called then number ∷ [] else [])
none_put called number list is = sym (append-nil list) ∙ ap (λ (b : Bool). list ++ (if b then number ∷ [] else [])) (sym is)

pub one_put : (called : Bool) (number : ℕ) (list more : List ℕ) → called ≡ true → more ≡ list ++ number ∷ [] → more ≡ list ++ (if called then number ∷ [] else [])
one_put called number list more is put = put ∙ ap (λ (b : Bool). list ++ (if b then number ∷ [] else [])) (sym is)

-- ---- a way that is never free

pub shut_by : (way : ChartWay) (book : Book) (trip : Trip) (horizon : ℤ) (going enters : Window) (pieces : List Claim) → pieces ≡ way.ending
    → going.from ≡ int_max trip.depart.from (pos 0) → going.to ≡ horizon -ℤ way.run
    → enters.from ≡ int_max going.from (trip.arrive.from -ℤ way.run) → enters.to ≡ int_min going.to (trip.arrive.to -ℤ way.run)
    → ((tick : ℤ) → Holds enters tick → ¬ Fits book pieces tick) → IsShut book trip horizon (ending_of way)
shut_by way book trip horizon going enters pieces same first last from to never enter since positive ends arrives fits =
    let in_time : (enter +ℤ way.run) ≤ℤ horizon = ends in
    let early : trip.arrive.from ≤ℤ (enter +ℤ way.run) = arrives.0 in
    let late : (enter +ℤ way.run) ≤ℤ trip.arrive.to = arrives.1 in
    never enter (omega (arith, ints, clamps), omega (arith, ints, clamps)) (subst (λ (claims : List Claim). Fits book claims enter) (sym same) fits)

-- ---- paths of any plan

-- a move is from a place of the plan
place_in : (plan : Plan) (place number : ℕ) → number < length (place_at plan place).moves → place < length plan.places
place_in plan place number inside = elim (cases_lt place (length plan.places)) [
  | inl within ↦ within
  | inr past ↦ let below : number < 0 = subst (λ (one : Place). number < length one.moves) (get_or_past plan.places place no_place past) inside in absurd (omega arith)
]

-- no train goes on before it comes
goes_later : (place : Place) (arrive enter : ℤ) → IsShort place.dwell → Enters place arrive enter → arrive ≤ℤ enter
goes_later place arrive enter short enters =
    let wait : (arrive +ℤ least_wait place) ≤ℤ enter = waited place place.standing arrive enter refl enters in
    let least : pos 0 ≤ℤ least_wait place = least_is place short in
    omega (arith, ints)

module _ (plan : Plan) (trip : Trip) (book : Book) (is : IsPlan plan book)
    (shut : (place number : ℕ) → number < length (place_at plan place).moves → (move_at plan place number).target ≡ End → IsShut book trip plan.horizon (move_at plan place number)) where
  -- a free move that is entered from the first departure on ends no path
  ends_none : (place : ℕ) (step : Step) → IsMove plan place step → MoveFits plan book place step → trip.depart.from ≤ℤ step.enter
      → target_of plan place step ≡ End → ¬ Holds trip.arrive (leave_of plan place step)
  ends_none place step move fits since ends arrives = shut place step.number move.0 ends step.enter since move.1 move.2 arrives fits

  leaves_later : (place : ℕ) (step : Step) → IsMove plan place step → trip.depart.from ≤ℤ step.enter → trip.depart.from ≤ℤ leave_of plan place step
  leaves_later place step move since =
      let run : pos 0 ≤ℤ (move_at plan place step.number).run = ((is.places place no_place (place_in plan place step.number move.0)).moves step.number no_move move.0).run.0.0 in
      let later : trip.depart.from ≤ℤ (step.enter +ℤ (move_at plan place step.number).run) = omega (arith, ints) in
      later

  rest_shut : (target : Target) (leave : ℤ) (steps : List Step) → trip.depart.from ≤ℤ leave → (target ≡ End → ¬ Holds trip.arrive leave)
      → IsRest plan trip target leave steps → RestFits plan book target leave steps → ⊥
  rest_shut End leave [] since late rest fits = late refl rest
  rest_shut End leave (step ∷ steps) since late rest fits = rest
  rest_shut (To place) leave [] since late rest fits = rest
  rest_shut (To place) leave (step ∷ steps) since late rest fits =
      let within = place_in plan place step.number rest.0.0 in
      let goes : leave ≤ℤ step.enter = goes_later (place_at plan place) leave step.enter (is.places place no_place within).dwell rest.1 in
      let on : trip.depart.from ≤ℤ step.enter = omega (arith, ints) in
      rest_shut (target_of plan place step) (leave_of plan place step) steps (leaves_later place step rest.0 on) (ends_none place step rest.0 fits.1 on) rest.2 fits.2

  path_shut : (steps : List Step) → IsPath plan trip steps → PathFits plan book steps → ⊥
  path_shut [] path fits = path
  path_shut (step ∷ steps) path fits =
      rest_shut (target_of plan 0 step) (leave_of plan 0 step) steps (leaves_later 0 step path.0 path.1.0) (ends_none 0 step path.0 fits.0 path.1.0) path.2 fits.1

  pub none_possible : Possible plan trip book → ⊥
  none_possible possible = path_shut possible.0 possible.1 possible.2

-- ---- moves of a plan over a chart

abbrev target_if : ℕ → Bool → Target
target_if place ends = if ends then End else To place

abbrev move_if : ChartWay → ℕ → Bool → Move
move_if way place ends = record { target = target_if place ends; run = way.run; pieces = if ends then way.ending else way.pieces }

ends_where : (place : ℕ) (ends : Bool) → target_if place ends ≡ End → ends ≡ true
ends_where place true is = refl
ends_where place false is = absurd (cc)

open_by : (halts called : Bool) → (halts && called) ≡ true → (not halts || called) ≡ true
open_by true called is = is
open_by false called is = absurd (cc)

-- the move that a way is with which the path ends
module _ (levels made : ℕ) (way : ChartWay) (ends : ends_path levels made way.halts ≡ true) where
  ends_with : move_of_way levels made way ≡ ending_of way
  ends_with = ap (move_if way (number_over levels way.next (made_behind way.halts made))) ends

-- what ways take that are the last of a path may be asked where their moves may be
ways_asked : (places levels made : ℕ) (book : Book) (call : ChartCall) (ways : List ChartWay) → levels ≤ made + 1
    → All (IsMoveOf places book) (map (move_of_way levels made) (open_among call ways)) → All (CanEnd call.blocks book) ways
ways_asked places levels made book call ways last all k d inside = record {
  run = λ called. (asked called).run.0;
  pieces = λ called. (asked called).pieces;
}
  where
    asked : is_call call.blocks (get_or ways k d) ≡ true → IsMoveOf places book (ending_of (get_or ways k d))
    asked called =
        let way = get_or ways k d in
        let parts = and_parts way.halts (is_called call way.block) called in
        let opens : is_open call way ≡ true = open_by way.halts (is_called call way.block) called in
        let ends : ends_path levels made way.halts ≡ true = and_from way.halts (nat_le levels (made + 1)) parts.0 (le-leb levels (made + 1) last) in
        subst (IsMoveOf places book) (ends_with levels made way ends)
        (all_passing (is_open call) (λ (one : ChartWay). IsMoveOf places book (move_of_way levels made one)) ways
        (all_mapped (IsMoveOf places book) (move_of_way levels made) (open_among call ways) all) k d inside opens)

all_but_one : (made levels : ℕ) → made < levels → levels ≤ made + 1 → made ≡ levels - 1
all_but_one made levels below last = omega arith

module _ (spots : List ChartSpot) (starts : List ChartWay) (calls : List ChartCall) (horizon : ℤ) where
  abbrev over : Plan
  over = plan_over spots starts calls horizon

  moves_here : (place : ℕ) → (place_over spots starts calls place).moves ≡ moves_over calls (made_over calls place) (ways_over spots starts calls place)
  moves_here zero = refl
  moves_here (suc place) = refl

  counted : length over.places ≡ count_over spots calls
  counted = length-map-range_with_len (place_over spots starts calls) 0 (count_over spots calls)

  moves_are : (place : ℕ) → place < length over.places → (place_at over place).moves ≡ moves_over calls (made_over calls place) (ways_over spots starts calls place)
  moves_are place within =
      let numbered : place < count_over spots calls = subst (λ count. place < count) counted within in
      ap (λ (one : Place). one.moves) (get_or-map-range_with_len (place_over spots starts calls) 0 (count_over spots calls) place place no_place numbered (omega arith))
      ∙ moves_here place

  -- so many calls are made where the next is the last
  last_made : 0 < length calls → (place : ℕ) → length calls ≤ made_over calls place + 1 → made_over calls place ≡ length calls - 1
  last_made called zero last = all_but_one 0 (length calls) called last
  last_made called (suc at) last = all_but_one (at % length calls) (length calls) (mod_below at (length calls) called) last

  -- ---- what may be asked of the book

  module _ (book : Book) (is : IsPlan over book) where
    asked_at : (place : ℕ) → place < length over.places → length calls ≤ made_over calls place + 1
        → All (CanEnd (call_at calls (made_over calls place)).blocks book) (ways_over spots starts calls place)
    asked_at place within last =
        ways_asked (length over.places) (length calls) (made_over calls place) book (call_at calls (made_over calls place)) (ways_over spots starts calls place) last
        (subst (All (IsMoveOf (length over.places) book)) (moves_are place within) (is.places place no_place within).moves)

    starts_asked : length calls ≡ 1 → All (CanEnd (last_call calls).blocks book) starts
    starts_asked one =
        let few : length calls ≤ 0 + 1 = omega arith in
        let none : 0 ≡ length calls - 1 = omega arith in
        subst (λ (made : ℕ). All (CanEnd (call_at calls made).blocks book) starts) none (asked_at 0 is.start few)

    spot_asked : 0 < length calls → (number : ℕ) → number < length spots → All (CanEnd (last_call calls).blocks book) (spot_at spots number).ways
    spot_asked called number within =
        let made_in : length calls - 1 < length calls = omega arith in
        let at : ℕ = number * length calls + (length calls - 1) in
        let spot : at / length calls ≡ number = div-mul-add number (length calls) (length calls - 1) made_in in
        let made : at % length calls ≡ length calls - 1 = mod-mul-add number (length calls) (length calls - 1) made_in in
        let below : at < length spots * length calls = on_chart at (length spots) (length calls) called (subst (λ n. n < length spots) (sym spot) within) in
        let numbered : suc at < count_over spots calls = omega arith in
        let least : length calls ≤ length calls - 1 + 1 = omega arith in
        let few : length calls ≤ at % length calls + 1 = subst (λ (m : ℕ). length calls ≤ m + 1) (sym made) least in
        subst (λ (n : ℕ). All (CanEnd (last_call calls).blocks book) (spot_at spots n).ways) spot
        (subst (λ (m : ℕ). All (CanEnd (call_at calls m).blocks book) (spot_at spots (at / length calls)).ways) made
        (asked_at (suc at) (subst (λ count. suc at < count) (sym counted) numbered) few))

    -- the same of what the code has at hand
    pub starts_can_end : (blocks : List ℕ) (ways : List ChartWay) (levels : ℕ) → blocks ≡ (last_call calls).blocks → ways ≡ starts → levels ≡ length calls
        → levels ≡ 1 → All (CanEnd blocks book) ways
    starts_can_end blocks ways levels blocks_are ways_are counts one =
        subst (λ (all : List ChartWay). All (CanEnd blocks book) all) (sym ways_are)
        (subst (λ (ends : List ℕ). All (CanEnd ends book) starts) (sym blocks_are) (starts_asked (sym counts ∙ one)))

    pub spots_can_end : (blocks numbers : List ℕ) → blocks ≡ (last_call calls).blocks → numbers ≡ spots_before (last_call calls).blocks spots → 0 < length calls
        → All (CanEndFrom spots blocks book) numbers
    spots_can_end blocks numbers blocks_are numbers_are called =
        subst (λ (all : List ℕ). All (CanEndFrom spots blocks book) all) (sym numbers_are)
        (All-filter (λ (n : ℕ). has_call (last_call calls).blocks (spot_at spots n).ways) (CanEndFrom spots blocks book) (range_with_len 0 (length spots))
        (numbers_all (CanEndFrom spots blocks book) (length spots) (λ number within. record {
          within = within;
          ways = subst (λ (ends : List ℕ). All (CanEnd ends book) (spot_at spots number).ways) (sym blocks_are) (spot_asked called number within);
        })))

  -- ---- a move that ends a path is a way to the last call

  module _ (place number : ℕ) (inside : number < length (place_at over place).moves) where
    place_inside : place < length over.places
    place_inside = place_in over place number inside

    number_in : number < length (open_ways calls (made_over calls place) (ways_over spots starts calls place))
    number_in =
        subst (λ count. number < count)
        (ap length (moves_are place place_inside) ∙ length-map (open_ways calls (made_over calls place) (ways_over spots starts calls place)) (move_of_way (length calls) (made_over calls place))) inside

    move_is : move_at over place number ≡ move_of_way (length calls) (made_over calls place) (way_over spots starts calls place number)
    move_is =
        ap (λ (moves : List Move). move_among moves number) (moves_are place place_inside)
        ∙ get_or-map (move_of_way (length calls) (made_over calls place)) (open_ways calls (made_over calls place) (ways_over spots starts calls place)) number no_way no_move number_in

    opens : is_open (call_at calls (made_over calls place)) (way_over spots starts calls place number) ≡ true
    opens =
        All-get_or (λ (one : ChartWay). is_open (call_at calls (made_over calls place)) one ≡ true) (open_ways calls (made_over calls place) (ways_over spots starts calls place)) number no_way number_in
        (filter_passes (is_open (call_at calls (made_over calls place))) (ways_over spots starts calls place))

    -- what holds of each way from there holds of it
    of_way : (Q : ChartWay → Type 0) → All Q (ways_over spots starts calls place) → Q (way_over spots starts calls place number)
    of_way Q all =
        All-get_or Q (open_ways calls (made_over calls place) (ways_over spots starts calls place)) number no_way number_in
        (All-filter (is_open (call_at calls (made_over calls place))) Q (ways_over spots starts calls place) all)

    module _ (ends : (move_at over place number).target ≡ End) where
      ends_there : ends_path (length calls) (made_over calls place) (way_over spots starts calls place number).halts ≡ true
      ends_there =
          ends_where
          (number_over (length calls) (way_over spots starts calls place number).next (made_behind (way_over spots starts calls place number).halts (made_over calls place)))
          (ends_path (length calls) (made_over calls place) (way_over spots starts calls place number).halts)
          (sym (ap (λ (move : Move). move.target) move_is) ∙ ends)

      halts_last : ((way_over spots starts calls place number).halts ≡ true) × (nat_le (length calls) (made_over calls place + 1) ≡ true)
      halts_last = and_parts (way_over spots starts calls place number).halts (nat_le (length calls) (made_over calls place + 1)) ends_there

      is_last : length calls ≤ made_over calls place + 1
      is_last = leb-true (length calls) (made_over calls place + 1) halts_last.1

      calls_last : is_call (call_at calls (made_over calls place)).blocks (way_over spots starts calls place number) ≡ true
      calls_last = call_of_open (call_at calls (made_over calls place)) (way_over spots starts calls place number) halts_last.0 opens

      is_ending : move_at over place number ≡ ending_of (way_over spots starts calls place number)
      is_ending = move_is ∙ ends_with (length calls) (made_over calls place) (way_over spots starts calls place number) ends_there

  -- ---- where the ways to the last call are shut

  module _ (trip : Trip) (book : Book) (called : 0 < length calls) where
    module _ (first : length calls ≡ 1 → AreShut (last_call calls).blocks book trip horizon starts)
        (rest : All (AreShutFrom spots (last_call calls).blocks book trip horizon) (spots_before (last_call calls).blocks spots)) where
      -- a spot that is not listed has no such way
      shut_from : (number : ℕ) → number < length spots → AreShut (last_call calls).blocks book trip horizon (spot_at spots number).ways
      shut_from number within k d inside = record {
        calls = λ leads.
            let here : AreShut (last_call calls).blocks book trip horizon (spot_at spots number).ways =
            number_passing (λ (n : ℕ). has_call (last_call calls).blocks (spot_at spots n).ways) (AreShutFrom spots (last_call calls).blocks book trip horizon) (length spots) rest number within
            (list_any_at (is_call (last_call calls).blocks) (spot_at spots number).ways k d inside leads) in
            (here k d inside).calls leads;
      }

      shut_at : (place : ℕ) → place < count_over spots calls → length calls ≤ made_over calls place + 1
          → AreShut (call_at calls (made_over calls place)).blocks book trip horizon (ways_over spots starts calls place)
      shut_at zero numbered last =
          let most : length calls ≤ 1 = last in
          let one : length calls ≡ 1 = omega arith in
          subst (λ (made : ℕ). AreShut (call_at calls made).blocks book trip horizon starts) (sym (last_made called zero last)) (first one)
      shut_at (suc at) numbered last =
          let below : at < length spots * length calls = omega arith in
          subst (λ (made : ℕ). AreShut (call_at calls made).blocks book trip horizon (spot_at spots (at / length calls)).ways) (sym (last_made called (suc at) last))
          (shut_from (at / length calls) (div_below at (length calls) (length spots) called below))

      ending_shut : (place number : ℕ) → number < length (place_at over place).moves → (move_at over place number).target ≡ End → IsShut book trip horizon (move_at over place number)
      ending_shut place number inside ends =
          let numbered : place < count_over spots calls = subst (λ count. place < count) counted (place_inside place number inside) in
          subst (IsShut book trip horizon) (sym (is_ending place number inside ends))
          ((of_way place number inside (IsShutWay (call_at calls (made_over calls place)).blocks book trip horizon) (shut_at place numbered (is_last place number inside ends))).calls
          (calls_last place number inside ends))

      none_over : IsPlan over book → Possible over trip book → ⊥
      none_over is possible = none_possible over trip book is ending_shut possible

    -- the same by what the code has at hand
    pub no_path : IsPlan over book → (blocks numbers : List ℕ) (ways : List ChartWay) (levels : ℕ) → blocks ≡ (last_call calls).blocks → numbers ≡ spots_before (last_call calls).blocks spots
        → ways ≡ starts → levels ≡ length calls → (levels ≡ 1 → AreShut blocks book trip horizon ways) → All (AreShutFrom spots blocks book trip horizon) numbers → Possible over trip book → ⊥
    no_path is blocks numbers ways levels blocks_are numbers_are ways_are counts first rest possible =
        none_over
        (λ one. subst (λ (all : List ChartWay). AreShut (last_call calls).blocks book trip horizon all) ways_are
        (subst (λ (ends : List ℕ). AreShut ends book trip horizon ways) blocks_are (first (counts ∙ one))))
        (subst (λ (all : List ℕ). All (AreShutFrom spots (last_call calls).blocks book trip horizon) all) numbers_are
        (subst (λ (ends : List ℕ). All (AreShutFrom spots ends book trip horizon) numbers) blocks_are rest))
        is possible
