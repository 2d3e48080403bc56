-- What is ahead over a chart as a sum is consistent.
use Rattle.std.proofs.Common.{◌≡◌, ◌∙◌, ℕ, suc, zero, ◌+◌, ◌*◌, ◌/◌, ◌%◌, ◌<◌, ◌≤◌, List, [], length, map, get_or, All, Bool, true, false, not, ◌&&◌, ◌||◌, nat_le, if◌then◌else◌, sym, ap, subst, refl, arith, add-one, inl, inr}
use Rattle.std.specs.Prelude.{ℤ, pos, ◌+ℤ◌, ◌≤ℤ◌}
use Rattle.std.specs.Int.{int_min}
use Rattle.std.specs.List.{range_with_len}
use Rattle.std.proofs.lemmas.Int.{ints, clamps}
use Rattle.std.proofs.lemmas.Bool.{cases_lt, leb-true, leb-false}
use Rattle.std.proofs.lemmas.Nat.{div-mul-add, mod-mul-add, div_below, le-div, mod_below}
use Rattle.std.proofs.lemmas.Option.{unwrap_or-slice_get}
use Rattle.std.proofs.lemmas.List.{get_or_past, get_or-map, length-map}
use Rattle.std.proofs.lemmas.List.Elements.{All-nil, All-cons, All-get_or, All-filter, All-map, filter_passes}
use Rattle.std.proofs.lemmas.List.FromFn.{get_or-map-range_with_len, length-map-range_with_len}
use Rattle.rail_types.specs.declared.limits.TheConstants.{FAR_TICK}
use Rattle.label_search.specs.declared.charts.ChartCall.{ChartCall}
use Rattle.label_search.specs.declared.charts.ChartSpot.{ChartSpot}
use Rattle.label_search.specs.declared.charts.ChartWay.{ChartWay}
use Rattle.label_search.specs.declared.limits.Ahead.{Ahead}
use Rattle.label_search.specs.declared.nearing.Near.{Near}
use Rattle.label_search.specs.declared.plans.Move.{Move}
use Rattle.label_search.specs.declared.plans.Place.{Place}
use Rattle.label_search.specs.declared.plans.Plan.{Plan}
use Rattle.label_search.specs.declared.plans.Target.{Target}
use Rattle.label_search.specs.declared.plans.Target.TheVariants.{Place as To, End}
use Rattle.label_search.specs.Charts.{call_at, count_over, dwell_over, is_called, is_open, made_behind, move_among, move_of_way, number_over, open_among, place_over, plan_over, spot_at, stay_over, target_over}
use Rattle.label_search.specs.Free.{Book}
use Rattle.label_search.specs.Limits.{IsAhead, IsBound, ahead_at, ahead_of, least_wait}
use Rattle.label_search.specs.Nearing.{AreNears, AreRests, HaveShortDwells, IsNearAlong, ahead_over, aheads_over, is_call, near_at, stay_ahead}
use Rattle.label_search.specs.Paths.{move_at, place_at}
use Rattle.label_search.specs.Plans.{IsMoveOf, IsPlaceOf, IsPlan, IsShort, IsTarget}
use Rattle.label_search.proofs.Calling.{Leads, spots_lead}
use Rattle.label_search.proofs.Resting.{ahead_is, nothing, nothing_is}

abbrev told : ℤ → Ahead
told ticks = record { ticks = ticks }

-- ---- sums of ticks

module _ (dwell near rest far : ℤ) where
  pub sum_is : pos 0 ≤ℤ dwell → pos 0 ≤ℤ near → pos 0 ≤ℤ rest → pos 0 ≤ℤ far → (pos 0 ≤ℤ int_min ((dwell +ℤ near) +ℤ rest) far) × (int_min ((dwell +ℤ near) +ℤ rest) far ≤ℤ far)
  sum_is waits comes left positive = (omega (arith, ints, clamps), omega (arith, ints, clamps))

  rolls_on : (run dwell_then near_then : ℤ) → pos 0 ≤ℤ dwell → pos 0 ≤ℤ run → pos 0 ≤ℤ dwell_then → near ≤ℤ (run +ℤ near_then)
      → int_min ((dwell +ℤ near) +ℤ rest) far ≤ℤ ((dwell +ℤ run) +ℤ int_min ((dwell_then +ℤ near_then) +ℤ rest) far)
  rolls_on run dwell_then near_then waits runs waits_then comes = omega (arith, ints, clamps)

  calls_on : (run there : ℤ) → near ≤ℤ run → rest ≤ℤ there → int_min ((dwell +ℤ near) +ℤ rest) far ≤ℤ ((dwell +ℤ run) +ℤ there)
  calls_on run there comes left = omega (arith, ints, clamps)

not_under : (wait run there : ℤ) → pos 0 ≤ℤ wait → pos 0 ≤ℤ run → pos 0 ≤ℤ there → pos 0 ≤ℤ ((wait +ℤ run) +ℤ there)
not_under wait run there waits runs after = omega (arith, ints)

wait_is : (standing : Bool) (dwell : ℤ) → pos 0 ≤ℤ dwell → pos 0 ≤ℤ (if standing then dwell else pos 0)
wait_is true dwell waits = waits
wait_is false dwell waits = omega (arith, ints)

pub least_is : (place : Place) → IsShort place.dwell → pos 0 ≤ℤ least_wait place
least_is place short = wait_is place.standing place.dwell short.0

wait_twice : (standing : Bool) (dwell : ℤ) → (if standing then (if standing then dwell else pos 0) else pos 0) ≡ (if standing then dwell else pos 0)
wait_twice true dwell = refl
wait_twice false dwell = refl

-- ---- numbers of places

some_level : (number spots levels : ℕ) → number < spots * levels → 0 < levels
some_level number spots zero below = absurd (omega arith)
some_level number spots (suc levels) below = omega arith

crossed : (one other : ℕ) → one < other → other ≤ one → ⊥
crossed one other less more = omega arith

pub on_chart : (number spots levels : ℕ) → 0 < levels → number / levels < spots → number < spots * levels
on_chart number spots levels called within = elim (cases_lt number (spots * levels)) [
  | inl below ↦ below
  | inr past ↦ absurd (crossed (number / levels) spots within (le-div spots number levels called past))
]

past_chart : (number spots levels : ℕ) → 0 < levels → spots ≤ number / levels → spots * levels ≤ number
past_chart number spots levels called past = elim (cases_lt number (spots * levels)) [
  | inl below ↦ absurd (crossed (number / levels) spots (div_below number levels spots called below) past)
  | inr behind ↦ behind
]

both : (halts called : Bool) → halts ≡ true → (not halts || called) ≡ true → (halts && called) ≡ true
both true called is opens = opens
both false called is opens = absurd (cc)

-- an open way at the end of which the train halts is a call
pub call_of_open : (call : ChartCall) (way : ChartWay) → way.halts ≡ true → is_open call way ≡ true → is_call call.blocks way ≡ true
call_of_open call way is opens = both way.halts (is_called call way.block) is opens

module _ (spots : List ChartSpot) (calls : List ChartCall) (nears : List Near) (rests : List Ahead) where
  abbrev pub stay : ℕ → ℕ → ℤ
  stay spot made = stay_ahead spots calls nears rests spot made

  abbrev pub all_over : List Ahead
  all_over = aheads_over spots calls nears rests

  stay_at : (spot made : ℕ) → made < length calls → stay ((spot * length calls + made) / length calls) ((spot * length calls + made) % length calls) ≡ stay spot made
  stay_at spot made within =
      ap (λ n. stay n ((spot * length calls + made) % length calls)) (div-mul-add spot (length calls) made within)
      ∙ ap (λ n. stay spot n) (mod-mul-add spot (length calls) made within)

  ahead_here : (number : ℕ) → number < length spots * length calls → ahead_at all_over (suc number) ≡ ahead_over spots calls nears rests number
  ahead_here number within =
      unwrap_or-slice_get (map (ahead_over spots calls nears rests) (range_with_len 0 (length spots * length calls))) number nothing
      ∙ get_or-map-range_with_len (ahead_over spots calls nears rests) 0 (length spots * length calls) number number nothing within (omega arith)

  -- nothing is ahead at the start
  pub nothing_at_start : (place : ℕ) → place ≡ 0 → nothing ≡ ahead_at all_over place
  nothing_at_start place is = sym (ap (λ n. ahead_at all_over n) is)

  -- nor at a number behind those of all places
  nothing_behind : (place before : ℕ) → place ≡ suc before → length spots * length calls ≤ before → nothing ≡ ahead_at all_over place
  nothing_behind place before is past =
      let sums : List Ahead = map (ahead_over spots calls nears rests) (range_with_len 0 (length spots * length calls)) in
      let counted : length sums ≡ length spots * length calls = length-map-range_with_len (ahead_over spots calls nears rests) 0 (length spots * length calls) in
      sym (ap (λ n. ahead_at all_over n) is
      ∙ (unwrap_or-slice_get sums before nothing
      ∙ get_or_past sums before nothing (subst (λ count. count ≤ before) (sym counted) past)))

  pub nothing_past : (place before levels : ℕ) → place ≡ suc before → levels ≡ length calls → 0 < levels → length spots ≤ before / levels → nothing ≡ ahead_at all_over place
  nothing_past place before levels is counted called past =
      nothing_behind place before is (subst (λ n. length spots * n ≤ before) counted (past_chart before (length spots) levels called past))

  pub nothing_uncalled : (place before : ℕ) → place ≡ suc before → length calls ≡ 0 → nothing ≡ ahead_at all_over place
  nothing_uncalled place before is none = nothing_behind place before is (subst (λ n. length spots * n ≤ before) (sym none) (omega arith))

  -- at the place of a number the sum is ahead
  pub sum_at_place : (place before levels : ℕ) → place ≡ suc before → levels ≡ length calls → 0 < levels → before / levels < length spots
      → (one : Ahead) → one.ticks ≡ stay (before / levels) (before % levels) → one ≡ ahead_at all_over place
  sum_at_place place before levels is counted called within one sum =
      ap told (sum ∙ ap (λ n. stay (before / n) (before % n)) counted)
      ∙ sym (ap (λ n. ahead_at all_over n) is ∙ ahead_here before (subst (λ n. before < length spots * n) counted (on_chart before (length spots) levels called within)))

  -- what is ahead at a spot stands at the number of its place
  ahead_there : (spot made : ℕ) → made < length calls → spot * length calls + made < length spots * length calls → ahead_of all_over (To (number_over (length calls) spot made)) ≡ stay spot made
  ahead_there spot made within inside =
      ap (λ place. (ahead_at all_over place).ticks) (add-one (spot * length calls + made))
      ∙ (ap (λ (one : Ahead). one.ticks) (ahead_here (spot * length calls + made) inside)
      ∙ stay_at spot made within)

  module _ (dwells : HaveShortDwells calls) (are : AreNears spots calls nears) (left : AreRests spots calls nears rests) where
    dwell_is : (made : ℕ) → IsShort (call_at calls made).dwell
    dwell_is made = elim (cases_lt made (length calls)) [
      | inl within ↦ All-get_or (λ (call : ChartCall). IsShort call.dwell) calls made (record { blocks = []; dwell = pos 0 }) within dwells
      | inr past ↦ subst (λ (call : ChartCall). IsShort call.dwell) (sym (get_or_past calls made (record { blocks = []; dwell = pos 0 }) past)) (omega (arith, ints), omega (arith, ints))
    ]

    near_is : (made : ℕ) → All IsAhead (near_at nears made).ticks
    near_is made = elim (cases_lt made (length calls)) [
      | inl within ↦ (are.each made within).ticks
      | inr past ↦ subst (λ (near : Near). All IsAhead near.ticks) (sym (get_or_past nears made (record { ticks = []; behind = [] }) (omega (arith, are.count)))) (All-nil IsAhead)
    ]

    waits : (spot made : ℕ) → pos 0 ≤ℤ dwell_over calls made (spot_at spots spot).standing
    waits spot made = wait_is (spot_at spots spot).standing (call_at calls made).dwell (dwell_is made).0

    stay_is : (spot made : ℕ) → IsAhead (record { ticks = stay spot made })
    stay_is spot made =
        sum_is (dwell_over calls made (spot_at spots spot).standing) (ahead_at (near_at nears made).ticks spot).ticks (ahead_at rests made).ticks FAR_TICK
        (waits spot made) (ahead_is (near_at nears made).ticks spot (near_is made)).0 (ahead_is rests made left.ticks).0 nothing_is.1

    pub all_ahead : All IsAhead all_over
    all_ahead =
        let numbers = range_with_len 0 (length spots * length calls) in
        All-cons IsAhead nothing (map (ahead_over spots calls nears rests) numbers) nothing_is
        (All-map IsAhead (ahead_over spots calls nears rests) numbers (λ k d within. stay_is (get_or numbers k d / length calls) (get_or numbers k d % length calls)))

    target_is : (target : Target) → pos 0 ≤ℤ ahead_of all_over target
    target_is (To place) = (ahead_is all_over place all_ahead).0
    target_is End = omega (arith, ints)

    -- along an open way where so many calls are made
    module _ (spot made : ℕ) (within : made < length calls) (way : ChartWay) (opens : is_open (call_at calls made) way ≡ true) (runs : pos 0 ≤ℤ way.run)
        (along : IsNearAlong (call_at calls made).blocks (near_at nears made).ticks spot way)
        (behind : made + 1 < length calls → is_call (call_at calls made).blocks way ≡ true → (ahead_at rests made).ticks ≤ℤ stay way.next (made + 1)) where
      abbrev wait : ℤ
      wait = dwell_over calls made (spot_at spots spot).standing

      abbrev target_by : Bool → Bool → Target
      target_by halts ends = if halts && ends then End else To (number_over (length calls) way.next (made_behind halts made))

      abbrev Bounds : ℤ → Type 0
      Bounds there = stay spot made ≤ℤ ((wait +ℤ way.run) +ℤ there)

      rolling : way.halts ≡ false → way.next * length calls + made < length spots * length calls → Bounds (stay way.next made)
      rolling is inside =
          rolls_on wait (ahead_at (near_at nears made).ticks spot).ticks (ahead_at rests made).ticks FAR_TICK
          way.run (dwell_over calls made (spot_at spots way.next).standing) (ahead_at (near_at nears made).ticks way.next).ticks
          (waits spot made) runs (waits way.next made) (along.rolls is)

      calling : (there : ℤ) → way.halts ≡ true → (ahead_at rests made).ticks ≤ℤ there → Bounds there
      calling there is after =
          calls_on wait (ahead_at (near_at nears made).ticks spot).ticks (ahead_at rests made).ticks FAR_TICK
          way.run there (along.calls (call_of_open (call_at calls made) way is opens)) after

      bound_by : (halts ends : Bool) → halts ≡ way.halts → ends ≡ nat_le (length calls) (made + 1) → IsTarget (count_over spots calls) (target_by halts ends) → Bounds (ahead_of all_over (target_by halts ends))
      bound_by false ends halts_is ends_is inside =
          let place : number_over (length calls) way.next made < count_over spots calls = inside in
          let place_in : way.next * length calls + made < length spots * length calls = omega arith in
          subst Bounds (sym (ahead_there way.next made within place_in)) (rolling (sym halts_is) place_in)
      bound_by true true halts_is ends_is inside =
          let last : length calls ≤ made + 1 = leb-true (length calls) (made + 1) (sym ends_is) in
          let done : (ahead_at rests made).ticks ≡ pos 0 = left.ends made (omega arith) in
          calling (pos 0) (sym halts_is) (omega (arith, ints))
      bound_by true false halts_is ends_is inside =
          let more : made + 1 < length calls = leb-false (length calls) (made + 1) (sym ends_is) in
          let place : number_over (length calls) way.next (made + 1) < count_over spots calls = inside in
          let place_in : way.next * length calls + (made + 1) < length spots * length calls = omega arith in
          subst Bounds (sym (ahead_there way.next (made + 1) more place_in))
          (calling (stay way.next (made + 1)) (sym halts_is) (behind more (call_of_open (call_at calls made) way (sym halts_is) opens)))

      way_bound : IsTarget (count_over spots calls) (target_over (length calls) made way) → Bounds (ahead_of all_over (target_over (length calls) made way))
      way_bound inside = bound_by way.halts (nat_le (length calls) (made + 1)) refl refl inside

    module _ (starts : List ChartWay) (horizon : ℤ) (book : Book) (is : IsPlan (plan_over spots starts calls horizon) book) where
      abbrev plan : Plan
      plan = plan_over spots starts calls horizon

      abbrev no_place : Place
      no_place = record { standing = false; dwell = pos 0; waits = []; moves = [] }

      counted : length plan.places ≡ count_over spots calls
      counted = length-map-range_with_len (place_over spots starts calls) 0 (count_over spots calls)

      place_is : (place : ℕ) → place < count_over spots calls → place_at plan place ≡ place_over spots starts calls place
      place_is place within = get_or-map-range_with_len (place_over spots starts calls) 0 (count_over spots calls) place place no_place within (omega arith)

      place_inside : (place number : ℕ) → number < length (place_at plan place).moves → place < count_over spots calls
      place_inside place number inside = elim (cases_lt place (count_over spots calls)) [
        | inl within ↦ within
        | inr past ↦ let below : number < 0 = subst (λ (one : Place). number < length one.moves) (get_or_past plan.places place no_place (subst (λ count. count ≤ place) (sym counted) past)) inside in absurd (omega arith)
      ]

      place_short : (place : ℕ) → place < count_over spots calls → IsPlaceOf (length plan.places) book (place_at plan place)
      place_short place within = All-get_or (IsPlaceOf (length plan.places) book) plan.places place no_place (subst (λ count. place < count) (sym counted) within) is.places

      move_short : (place number : ℕ) → place < count_over spots calls → number < length (place_at plan place).moves → IsMoveOf (length plan.places) book (move_at plan place number)
      move_short place number within inside = All-get_or (IsMoveOf (length plan.places) book) (place_at plan place).moves number (record { target = End; run = pos 0; pieces = [] }) inside (place_short place within).moves

      start_bound : (number : ℕ) → zero < count_over spots calls → number < length (place_at plan zero).moves → IsBound plan all_over zero number
      start_bound number within inside =
          not_under (least_wait (place_at plan zero)) (move_at plan zero number).run (ahead_of all_over (move_at plan zero number).target)
          (least_is (place_at plan zero) (place_short zero within).dwell) (move_short zero number within inside).run.0.0 (target_is (move_at plan zero number).target)

      -- at a place behind the start
      module _ (at number : ℕ) (below : at < length spots * length calls) (inside : number < length (place_at plan (suc at)).moves) where
        abbrev levels : ℕ
        levels = length calls

        abbrev spot : ℕ
        spot = at / length calls

        abbrev made : ℕ
        made = at % length calls

        abbrev ways : List ChartWay
        ways = (spot_at spots (at / length calls)).ways

        abbrev no_way : ChartWay
        no_way = record { block = 0; halts = false; next = 0; run = pos 0; pieces = []; ending = [] }

        abbrev open_here : List ChartWay
        open_here = open_among (call_at calls (at % length calls)) (spot_at spots (at / length calls)).ways

        abbrev way : ChartWay
        way = get_or (open_among (call_at calls (at % length calls)) (spot_at spots (at / length calls)).ways) number no_way

        leveled : 0 < length calls
        leveled = some_level at (length spots) (length calls) below

        made_in : at % length calls < length calls
        made_in = mod_below at (length calls) leveled

        spot_in : at / length calls < length spots
        spot_in = div_below at (length calls) (length spots) leveled below

        number_in : suc at < count_over spots calls
        number_in = omega arith

        here : place_at plan (suc at) ≡ stay_over calls (at % length calls) (spot_at spots (at / length calls))
        here = place_is (suc at) number_in

        way_in : number < length open_here
        way_in =
            let counted_moves : number < length (map (move_of_way levels made) open_here) = subst (λ (place : Place). number < length place.moves) here inside in
            subst (λ count. number < count) (length-map open_here (move_of_way levels made)) counted_moves

        move_is : move_at plan (suc at) number ≡ move_of_way levels made way
        move_is = ap (λ (place : Place). move_among place.moves number) here ∙ get_or-map (move_of_way levels made) open_here number no_way (record { target = End; run = pos 0; pieces = [] }) way_in

        short : IsMoveOf (length plan.places) book (move_of_way levels made way)
        short = subst (IsMoveOf (length plan.places) book) move_is (move_short (suc at) number number_in inside)

        -- what holds of each way from the spot holds of the open one
        of_way : (Q : ChartWay → Type 0) → All Q ways → Q way
        of_way Q all = All-get_or Q open_here number no_way way_in (All-filter (is_open (call_at calls made)) Q ways all)

        opens : is_open (call_at calls made) way ≡ true
        opens = All-get_or (λ (one : ChartWay). is_open (call_at calls made) one ≡ true) open_here number no_way way_in (filter_passes (is_open (call_at calls made)) ways)

        after : made + 1 < length calls → is_call (call_at calls made).blocks way ≡ true → (ahead_at rests made).ticks ≤ℤ stay way.next (made + 1)
        after more =
            of_way (λ (one : ChartWay). is_call (call_at calls made).blocks one ≡ true → (ahead_at rests made).ticks ≤ℤ stay one.next (made + 1))
            (All-get_or (λ (one : ChartSpot). All (Leads (λ next. (ahead_at rests made).ticks ≤ℤ stay next (made + 1)) (call_at calls made).blocks) one.ways) spots spot (record { standing = false; waits = []; ways = [] }) spot_in
            (spots_lead (λ next. (ahead_at rests made).ticks ≤ℤ stay next (made + 1)) (call_at calls made).blocks spots
            (subst (All (λ next. (ahead_at rests made).ticks ≤ℤ stay next (made + 1))) (are.each made made_in).behind (left.behind made (omega arith) more))))

        target_in : IsTarget (count_over spots calls) (target_over levels made way)
        target_in = subst (λ count. IsTarget count (target_over levels made way)) counted short.target

        waited : least_wait (place_at plan (suc at)) ≡ dwell_over calls made (spot_at spots spot).standing
        waited = ap least_wait here ∙ wait_twice (spot_at spots spot).standing (call_at calls made).dwell

        place_bound : IsBound plan all_over (suc at) number
        place_bound =
            subst (λ (move : Move). (ahead_at all_over (suc at)).ticks ≤ℤ ((least_wait (place_at plan (suc at)) +ℤ move.run) +ℤ ahead_of all_over move.target)) (sym move_is)
            (subst (λ wait. (ahead_at all_over (suc at)).ticks ≤ℤ ((wait +ℤ way.run) +ℤ ahead_of all_over (target_over levels made way))) (sym waited)
            (subst (λ ticks. ticks ≤ℤ ((dwell_over calls made (spot_at spots spot).standing +ℤ way.run) +ℤ ahead_of all_over (target_over levels made way))) (sym (ap (λ (one : Ahead). one.ticks) (ahead_here at below)))
            (way_bound spot made made_in way opens short.run.0.0 (of_way (IsNearAlong (call_at calls made).blocks (near_at nears made).ticks spot) ((are.each made made_in).ways spot spot_in)) after target_in)))

      pub consistent : (place number : ℕ) → number < length (place_at plan place).moves → IsBound plan all_over place number
      consistent zero number inside = start_bound number (place_inside zero number inside) inside
      consistent (suc at) number inside = let within = place_inside (suc at) number inside in place_bound at number (omega arith) inside
