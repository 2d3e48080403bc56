-- The moves that ways are in the plan over a chart, and the runs of a path along it.
use Rattle.std.proofs.Common.{◌≡◌, ◌∙◌, sym, ap, refl, subst, arith, ℕ, zero, suc, ◌+◌, ◌*◌, ◌<◌, pos, ◌+ℤ◌, ◌≤ℤ◌, Bool, true, false, List, [], ◌∷◌, ◌++◌, length, map, get_or}
use Rattle.std.proofs.lemmas.Int.{ints}
use Rattle.std.proofs.lemmas.List.{length-map, get_or-map}
use Rattle.std.proofs.lemmas.List.FromFn.{get_or-map-range_with_len, length-map-range_with_len}
use Rattle.rail_types.specs.declared.tracks.Network.{Network}
use Rattle.rail_types.specs.declared.trains.Request.{Request}
use Rattle.rail_types.specs.declared.entries.Settings.{Settings}
use Rattle.rail_types.specs.declared.paths.Run.{Run}
use Rattle.rail_types.specs.Limits.{IsRequestWithinLimits}
use Rattle.running_time.specs.declared.edges.Edge.TheVariants.{Still as Halted}
use Rattle.blocking_time.specs.Runs.{exit_of}
use Rattle.stair_pieces.specs.Places.{stands_after}
use Rattle.tail_states.specs.declared.moves.Move.{Move as ListedMove}
use Rattle.tail_states.specs.declared.moves.Next.TheVariants.{End as Ends}
use Rattle.label_search.specs.declared.charts.ChartCall.{ChartCall}
use Rattle.label_search.specs.declared.charts.ChartSpot.{ChartSpot}
use Rattle.label_search.specs.declared.charts.ChartWay.{ChartWay}
use Rattle.label_search.specs.declared.plans.Move.{Move}
use Rattle.label_search.specs.declared.plans.Place.{Place}
use Rattle.label_search.specs.declared.plans.Plan.{Plan}
use Rattle.label_search.specs.declared.plans.Step.{Step}
use Rattle.label_search.specs.declared.plans.Target.{Target}
use Rattle.label_search.specs.declared.plans.Target.TheVariants.{Place as To, End}
use Rattle.label_search.specs.declared.plans.TheConstants.{LATEST}
use Rattle.label_search.specs.Charts.{count_over, made_over, move_among, move_of_way, moves_over, open_ways, place_over, way_over, ways_over}
use Rattle.label_search.specs.Free.{Book}
use Rattle.label_search.specs.Paths.{IsMove, leave_of, move_at, place_at, target_of}
use Rattle.label_search.specs.Plans.{IsPlan}
use Rattle.path_labels.specs.declared.chart_courses.ChartCourse.{ChartCourse}
use Rattle.path_labels.specs.ChartCourses.{ChartsArePlanned, IsChartCourse, IsPlannedAlong, listed_along, listed_move, moves_along, plan_along}
use Rattle.path_labels.specs.Joining.{move_of, run_of}
use Rattle.path_labels.specs.Searched.{IsPlannedOver}
use Rattle.path_labels.proofs.Steps.{AreTold, move_told, never_past, next_told, place_told}

-- ---- what the law of charts says of a course

module _ (law : ChartsArePlanned) (net : Network) (settings : Settings) (request : Request) (course : ChartCourse) (asked : IsRequestWithinLimits request) (is : IsChartCourse net settings request course) where
  pub planned_along : IsPlannedAlong net settings request course.chart course.starts course.calls
  planned_along = law net settings request course.chart course.starts course.calls asked is.over

  -- so it is of a plan that is lent
  pub planned_lent : (plan : Plan) → plan ≡ plan_along settings course → IsPlannedOver net settings request (listed_along course) plan
  planned_lent plan lent = subst (IsPlannedOver net settings request (listed_along course)) (sym lent) planned_along.over

  pub lent_in : (plan : Plan) (book : Book) → plan ≡ plan_along settings course → length book ≡ net.zones → IsPlan plan book
  lent_in plan book lent zones = subst (λ (p : Plan). IsPlan p book) (sym lent) (planned_along.searched book zones)

-- ---- the ways of a course by the numbers of its places

stands_where_it_halts : (halts : Bool) → stands_after (exit_of halts) ≡ halts
stands_where_it_halts true = refl
stands_where_it_halts false = refl

-- the open ways from the place of a number
abbrev open_at : ChartCourse → ℕ → List ChartWay
open_at course number = open_ways course.calls (made_over course.calls number) (ways_over course.chart.chart.spots course.starts course.calls number)

abbrev way_at : ChartCourse → ℕ → ℕ → ChartWay
way_at course number k = way_over course.chart.chart.spots course.starts course.calls number k

moves_here : (spots : List ChartSpot) (starts : List ChartWay) (calls : List ChartCall) (number : ℕ)
    → (place_over spots starts calls number).moves ≡ moves_over calls (made_over calls number) (ways_over spots starts calls number)
moves_here spots starts calls zero = refl
moves_here spots starts calls (suc number) = refl

abbrev listed_among : List ListedMove → ℕ → ListedMove
listed_among moves k = get_or moves k (record { step = record { block = 0; exit = Halted }; next = Ends })

-- the listed move of a number is that of its way
listed_is : (course : ChartCourse) (number k : ℕ) → number < count_over course.chart.chart.spots course.calls → k < length (open_at course number)
    → move_of (listed_along course) number k ≡ listed_move (length course.calls) (made_over course.calls number) (way_at course number k)
listed_is course zero k within less = get_or-map (listed_move (length course.calls) 0) (open_ways course.calls 0 course.starts) k _ _ less
listed_is course (suc number) k within less =
    let spots = course.chart.chart.spots in
    let there : get_or (listed_along course).moves number [] ≡ moves_along spots course.calls number =
    get_or-map-range_with_len (moves_along spots course.calls) 0 (length spots * length course.calls) number number [] (omega (arith, within)) (omega arith) in
    ap (λ (moves : List ListedMove). listed_among moves k) there
    ∙ get_or-map (listed_move (length course.calls) (made_over course.calls (suc number))) (open_at course (suc number)) k _ _ less

module _ (settings : Settings) (course : ChartCourse) (plan : Plan) (lent : plan ≡ plan_along settings course) where
  pub within_chart : (number : ℕ) → number < length plan.places → number < count_over course.chart.chart.spots course.calls
  within_chart number less =
      let counted : length plan.places ≡ count_over course.chart.chart.spots course.calls =
      ap (λ (p : Plan). length p.places) lent ∙ length-map-range_with_len (place_over course.chart.chart.spots course.starts course.calls) 0 (count_over course.chart.chart.spots course.calls) in
      subst (λ most. number < most) counted less

  place_is : (number : ℕ) → number < length plan.places → place_at plan number ≡ place_over course.chart.chart.spots course.starts course.calls number
  place_is number within =
      ap (λ (p : Plan). place_at p number) lent
      ∙ get_or-map-range_with_len (place_over course.chart.chart.spots course.starts course.calls) 0 (count_over course.chart.chart.spots course.calls) number number _ (within_chart number within) (omega arith)

  moves_are : (number : ℕ) → number < length plan.places → (place_at plan number).moves ≡ map (move_of_way (length course.calls) (made_over course.calls number)) (open_at course number)
  moves_are number within = ap (λ (p : Place). p.moves) (place_is number within) ∙ moves_here course.chart.chart.spots course.starts course.calls number

  -- a move of the plan is an open way
  pub is_open : (number k : ℕ) → number < length plan.places → k < length (place_at plan number).moves → k < length (open_at course number)
  is_open number k within less =
      subst (λ most. k < most)
      (ap length (moves_are number within) ∙ length-map (open_at course number) (move_of_way (length course.calls) (made_over course.calls number))) less

  runs_as : (number k : ℕ) → number < length plan.places → k < length (place_at plan number).moves → (move_at plan number k).run ≡ (way_at course number k).run
  runs_as number k within less =
      ap (λ (moves : List Move). (move_among moves k).run) (moves_are number within)
      ∙ ap (λ (m : Move). m.run) (get_or-map (move_of_way (length course.calls) (made_over course.calls number)) (open_at course number) k _ _ (is_open number k within less))

  module _ (number : ℕ) (step : Step) (way : ChartWay) (within : number < length plan.places) (move : IsMove plan number step) (way_is : way ≡ way_at course number step.number) where
    run_of_it : (move_at plan number step.number).run ≡ way.run
    run_of_it = runs_as number step.number within move.0 ∙ sym (ap (λ (w : ChartWay). w.run) way_is)

    pub ends_in_time : plan.horizon ≤ℤ LATEST → (step.enter +ℤ way.run) ≤ℤ LATEST
    ends_in_time horizon =
        let last : leave_of plan number step ≤ℤ plan.horizon = move.2 in
        subst (λ run. (step.enter +ℤ run) ≤ℤ LATEST) run_of_it (omega (arith, ints, last, horizon))

    -- the run of a way is that of the step
    pub run_is : (run : Run) → run.block ≡ way.block → run.enter ≡ step.enter → run.leave ≡ step.enter +ℤ way.run → run.stops ≡ way.halts → run ≡ run_of (listed_along course) plan number step
    run_is run block enter leave stops =
        let one : move_of (listed_along course) number step.number ≡ listed_move (length course.calls) (made_over course.calls number) (way_at course number step.number) =
        listed_is course number step.number (within_chart number within) (is_open number step.number within move.0) in
        let block_is : run.block ≡ (move_of (listed_along course) number step.number).step.block = block ∙ ap (λ (w : ChartWay). w.block) way_is ∙ sym (ap (λ (m : ListedMove). m.step.block) one) in
        let leave_is : run.leave ≡ leave_of plan number step = leave ∙ ap (λ ticks. step.enter +ℤ ticks) (sym run_of_it) in
        let stops_is : run.stops ≡ stands_after (move_of (listed_along course) number step.number).step.exit =
        stops ∙ ap (λ (w : ChartWay). w.halts) way_is ∙ sym (stands_where_it_halts (way_at course number step.number).halts) ∙ sym (ap (λ (m : ListedMove). stands_after m.step.exit) one) in
        λ j. record { block = block_is j; enter = enter j; leave = leave_is j; stops = stops_is j }

-- ---- the steps of a path along a course, of which so many are told

module _ (settings : Settings) (course : ChartCourse) (plan : Plan) (lent : plan ≡ plan_along settings course) (steps items : List Step) (same : items ≡ steps) (index : ℕ) (inside : index < length items) (target : Target) (runs : List Run)
    (told : AreTold (listed_along course) plan steps index target runs) where
  abbrev step : Step
  step = get_or items index (record { number = 0; enter = pos 0 })

  told_items : AreTold (listed_along course) plan items index target runs
  told_items = subst (λ (all : List Step). AreTold (listed_along course) plan all index target runs) (sym same) told

  pub never_at_end : target ≡ End → ⊥
  never_at_end ended =
      never_past (listed_along course) plan items index (record { number = 0; enter = pos 0 }) inside runs
      (subst (λ (to : Target). AreTold (listed_along course) plan items index to runs) ended told_items)

  module _ (number : ℕ) (at : target ≡ To number) where
    told_to : AreTold (listed_along course) plan items index (To number) runs
    told_to = subst (λ (to : Target). AreTold (listed_along course) plan items index to runs) at told_items

    pub step_place : number < length plan.places
    step_place = place_told (listed_along course) plan items index (record { number = 0; enter = pos 0 }) inside runs number told_to

    pub step_move : IsMove plan number step
    step_move = move_told (listed_along course) plan items index (record { number = 0; enter = pos 0 }) inside runs number told_to

    pub step_on_chart : number < count_over course.chart.chart.spots course.calls
    step_on_chart = within_chart settings course plan lent number step_place

    pub step_open : step.number < length (open_at course number)
    step_open = is_open settings course plan lent number step.number step_place step_move.0

    module _ (way : ChartWay) (way_is : way ≡ way_at course number step.number) where
      pub step_ends : plan.horizon ≤ℤ LATEST → (step.enter +ℤ way.run) ≤ℤ LATEST
      step_ends horizon = ends_in_time settings course plan lent number step way step_place step_move way_is horizon

      -- its run is told behind the others
      pub step_told : (next : Target) (run : Run) (more : List Run) → next ≡ target_of plan number step
          → run.block ≡ way.block → run.enter ≡ step.enter → run.leave ≡ step.enter +ℤ way.run → run.stops ≡ way.halts
          → more ≡ runs ++ run ∷ [] → AreTold (listed_along course) plan steps (index + 1) next more
      step_told next run more leads block enter leave stops pushed =
          let one = run_is settings course plan lent number step way step_place step_move way_is run block enter leave stops in
          let longer : more ≡ runs ++ run_of (listed_along course) plan number step ∷ [] = pushed ∙ ap (λ (r : Run). runs ++ r ∷ []) one in
          subst (λ (all : List Step). AreTold (listed_along course) plan all (index + 1) next more) same
          (subst (λ (to : Target). AreTold (listed_along course) plan items (index + 1) to more) (sym leads)
          (subst (AreTold (listed_along course) plan items (index + 1) (target_of plan number step)) (sym longer)
          (next_told (listed_along course) plan items index (record { number = 0; enter = pos 0 }) inside runs number told_to)))
