-- Paths that can be granted are planned.
use Rattle.std.proofs.Common.{◌≡◌, ◌∙◌, sym, ap, refl, subst, ℕ, ◌+◌, ◌-◌, ◌≤◌, pos, ◌+ℤ◌, ◌≤ℤ◌, Bool, true, false, List, [], ◌∷◌, Some, arith}
use Rattle.std.specs.Prelude.{slice_get}
use Rattle.std.proofs.lemmas.List.Elements.{All-nil}
use Rattle.rail_types.specs.declared.tracks.Network.{Network}
use Rattle.rail_types.specs.declared.trains.Train.{Train}
use Rattle.rail_types.specs.declared.trains.Request.{Request}
use Rattle.rail_types.specs.declared.entries.Settings.{Settings}
use Rattle.rail_types.specs.declared.entries.Wanted.TheVariants.{Asked}
use Rattle.rail_types.specs.declared.paths.Run.{Run}
use Rattle.rail_types.specs.Occupation.{Fits}
use Rattle.occupation_book.specs.Held.{IsFree, held}
use Rattle.free_windows.specs.Free.{Fits as FitsAmong, Holds, moved}
use Rattle.blocking_time.specs.Runs.{exit_of}
use Rattle.stair_pieces.specs.declared.places.Place.{Place}
use Rattle.stair_pieces.specs.Places.{start_place, step_of, place_after, made_after, standing_zones}
use Rattle.stair_pieces.specs.Pieces.{kept, later_by, pieces_of}
use Rattle.stair_pieces.specs.Fitting.{AreFree, FitsRunByRun}
use Rattle.stair_pieces.specs.Moves.{AreMoves, ArePlaces, GoesOnAfter, IsEnd, IsInside, IsMove, IsPlace, OfFirst, OfLast, PathsAreMoves, TakesItsTime, TakeTheirTime}
use Rattle.tail_states.specs.Closing.{GoesOn, leaves_at}
use Rattle.tail_states.specs.Listed.{Listed}
use Rattle.label_search.specs.declared.plans.Target.TheVariants.{End}
use Rattle.label_search.specs.declared.plans.Plan.{Plan}
use Rattle.label_search.specs.declared.plans.Move.{Move as PlannedMove}
use Rattle.label_search.specs.declared.plans.Step.{Step as PlannedStep}
use Rattle.label_search.specs.Free.{Book}
use Rattle.label_search.specs.Paths.{Enters, IsMove as IsPlannedMove, IsPath, IsRest, MoveFits, PathFits, RestFits, WaitFits, arrival, last_leave as last_of, leave_of, move_at, place_at, target_of}
use Rattle.path_labels.specs.Plans.{kept_behind, target_of as target_in}
use Rattle.path_labels.specs.Answers.{claims_held}
use Rattle.path_labels.specs.Joining.{GrantedPathsArePlanned, IsPlannedFrom, move_of, trip_of}
use Rattle.path_labels.proofs.Fitting.{later_fits}
use Rattle.path_labels.proofs.Standing.{IsAt, IsMoveAs, at_listed, at_start, ends_by, goes_to, leaves_alike, move_is, numbered}
use Rattle.path_labels.proofs.Closing.{behind_fits, enters_there, planned_fits, wait_fits}
use Rattle.path_labels.proofs.Granting.{last_is}

-- a run that goes on after another leaves the place behind that one as a train may
goes_on : (net : Network) (request : Request) (book : Book) (place : Place) (run next : Run) → Fits (kept (standing_zones net request.train (place_after net request.train place (step_of run))) run.leave next.enter) (claims_held book)
    → (stops : Bool) → run.stops ≡ stops → GoesOnAfter request place.made stops run next → GoesOn net request (claims_held book) (place_after net request.train place (step_of run)) run.leave next.enter
goes_on net request book place run next free true is waits = record {
  rolls = λ never. (let stands : true ≡ false = rw is at never in cc);
  dwells = λ stands stop named. waits stop (subst (λ n. slice_get request.stops n ≡ Some stop) (one_less is) named);
  waits = free;
}
  where
    one_less : run.stops ≡ true → made_after place.made (exit_of run.stops) - 1 ≡ place.made
    one_less is = rw is (omega arith)
goes_on net request book place run next free false is at_once = record {
  rolls = λ never. at_once;
  dwells = λ stands stop named. (let rolls : false ≡ true = rw is at stands in cc);
  waits = free;
}

module _ (net : Network) (settings : Settings) (request : Request) (listed : Listed) (plan : Plan) (all : IsPlannedFrom net settings request listed plan) (book : Book) where
  -- steps of the plan from a place, which fit and leave last with the runs
  pub record ArePlanned (number : ℕ) (run : Run) (runs : List Run) (step : PlannedStep) (steps : List PlannedStep) : Type 0 where
    pub enters : step.enter ≡ run.enter
    pub move : IsPlannedMove plan number step
    pub fits : MoveFits plan book number step
    pub rest : IsRest plan (trip_of request) (target_of plan number step) (leave_of plan number step) steps
    pub rest_fits : RestFits plan book (target_of plan number step) (leave_of plan number step) steps
    pub ends : OfLast (λ last. last.leave ≡ last_of plan (target_of plan number step) (leave_of plan number step) steps) (run ∷ runs)

  module _ (number : ℕ) (place : Place) (is : IsAt net settings request listed plan all number place) (run : Run) (move : IsMove net request place (step_of run)) (time : TakesItsTime net settings request place run)
      (free : Fits (later_by run.enter (pieces_of net settings request.train place (step_of run))) (claims_held book)) (k : ℕ) (its : IsMoveAs net settings request listed plan all number place is (step_of run) run.enter k) where
    abbrev planned : PlannedStep
    planned = record { number = k; enter = run.enter }

    leaves : leave_of plan number planned ≡ run.leave
    leaves = leaves_alike net settings request listed plan all number place is planned its.move ∙ ap (λ s. leaves_at net settings request place s run.enter) its.same ∙ sym time.timed

    fits_with : FitsAmong (held book) (kept_behind net settings request place (move_of listed number k).step (move_of listed number k).next) run.enter → MoveFits plan book number planned
    fits_with behind = planned_fits net settings request listed plan all book number place is k run.enter its.within
        (subst (λ s. FitsAmong (held book) (pieces_of net settings request.train place s) run.enter) (sym its.same) (later_fits book (pieces_of net settings request.train place (step_of run)) run.enter free)) behind

    -- the last run ends the planned path
    pub last_planned : IsEnd request place (step_of run) → Fits (kept (standing_zones net request.train (place_after net request.train place (step_of run))) run.leave (run.leave +ℤ pos settings.release)) (claims_held book)
        → IsInside request.arrive run.leave → ArePlanned number run [] planned []
    last_planned end waits arrives =
        let end_there : IsEnd request place (move_of listed number k).step = subst (IsEnd request place) (sym its.same) end in
        let next = ends_by net settings request listed plan all number place is k its.within end_there in
        let target : (move_at plan number k).target ≡ End = ap (λ (one : PlannedMove). one.target) (move_is net settings request listed plan all number place is k its.within) ∙ ap target_in next in
        let zones_fit = subst (λ s. Fits (kept (standing_zones net request.train (place_after net request.train place s)) run.leave (run.leave +ℤ pos settings.release)) (claims_held book)) (sym its.same) waits in
        let behind = subst (λ next. FitsAmong (held book) (kept_behind net settings request place (move_of listed number k).step next) run.enter) (sym next)
        (behind_fits net settings request listed plan all book number place is k run.enter run.leave its.within leaves zones_fit) in
        record {
          enters = refl;
          move = its.move;
          fits = fits_with behind;
          rest = subst (λ t. IsRest plan (trip_of request) t (leave_of plan number planned) []) (sym target) (subst (IsInside request.arrive) (sym leaves) arrives);
          rest_fits = subst (λ t. RestFits plan book t (leave_of plan number planned) []) (sym target) tt;
          ends = subst (λ t. run.leave ≡ last_of plan t (leave_of plan number planned) []) (sym target) (sym leaves);
        }

    -- another run goes on with the planned path
    pub next_planned : ¬ IsEnd request place (step_of run) → IsPlace net request (place_after net request.train place (step_of run)) → (next : Run) (runs : List Run)
        → GoesOn net request (claims_held book) (place_after net request.train place (step_of run)) run.leave next.enter
        → ((to : ℕ) → IsAt net settings request listed plan all to (place_after net request.train place (step_of run)) → (step : PlannedStep) × ((steps : List PlannedStep) × ArePlanned to next runs step steps))
        → (steps : List PlannedStep) × ArePlanned number run (next ∷ runs) planned steps
    next_planned no_end among next runs on rest =
        let no_end_there : ¬ IsEnd request place (move_of listed number k).step = λ end. no_end (subst (IsEnd request place) its.same end) in
        let goes = goes_to net settings request listed plan all number place is k its.within no_end_there in
        let to = goes.0 + 1 in
        let there = place_after net request.train place (step_of run) in
        let listed_there : slice_get listed.members goes.0 ≡ Some there = subst (λ s. slice_get listed.members goes.0 ≡ Some (place_after net request.train place s)) its.same goes.1.leads in
        let is_there = at_listed net settings request listed plan all goes.0 there listed_there in
        let behind : FitsAmong (held book) (kept_behind net settings request place (move_of listed number k).step (move_of listed number k).next) run.enter =
        subst (λ next. FitsAmong (held book) (kept_behind net settings request place (move_of listed number k).step next) run.enter) (sym goes.1.next) (All-nil (λ piece. IsFree (held book) (moved run.enter piece))) in
        let more = rest to is_there in
        let step = more.0 in let steps = more.1.0 in let planned_rest = more.1.1 in
        let enters : Enters (place_at plan to) run.leave step.enter = subst (Enters (place_at plan to) run.leave) (sym planned_rest.enters) (enters_there net settings request listed plan all book to there is_there among run.leave next.enter on) in
        let waits : WaitFits book (place_at plan to) run.leave step.enter = subst (WaitFits book (place_at plan to) run.leave) (sym planned_rest.enters) (wait_fits net settings request listed plan all book to there is_there run.leave next.enter on) in (
          step ∷ steps,
          record {
            enters = refl;
            move = its.move;
            fits = fits_with behind;
            rest = subst (λ t. IsRest plan (trip_of request) t (leave_of plan number planned) (step ∷ steps)) (sym goes.1.target)
                (planned_rest.move, subst (λ leave. Enters (place_at plan to) leave step.enter) (sym leaves) enters, planned_rest.rest);
            rest_fits = subst (λ t. RestFits plan book t (leave_of plan number planned) (step ∷ steps)) (sym goes.1.target)
                (subst (λ leave. WaitFits book (place_at plan to) leave step.enter) (sym leaves) waits, planned_rest.fits, planned_rest.rest_fits);
            ends = subst (λ t. OfLast (λ last. last.leave ≡ last_of plan t (leave_of plan number planned) (step ∷ steps)) (next ∷ runs)) (sym goes.1.target) planned_rest.ends;
          },
        )

  plan_from : (runs : List Run) (run : Run) (number : ℕ) (place : Place) → IsAt net settings request listed plan all number place → AreMoves net request place (run ∷ runs) → ArePlaces net request place (run ∷ runs) → TakeTheirTime net settings request place (run ∷ runs)
      → AreFree net settings request.train (claims_held book) place (run ∷ runs) → OfLast (λ run. IsInside request.arrive run.leave) (run ∷ runs) → (step : PlannedStep) × ((steps : List PlannedStep) × ArePlanned number run runs step steps)
  plan_from [] run number place is (move, end) places time (free, none) arrives =
      let its = numbered net settings request listed plan all number place is (step_of run) run.enter move time.begins (subst (λ tick. tick ≤ℤ pos settings.horizon) time.timed time.ends) in
      (record { number = its.0; enter = run.enter }, ([], last_planned number place is run move time free.pieces its.0 its.1 end free.waits arrives))
  plan_from (next ∷ runs) run number place is (move, no_end, moves) (among, places) (time, goes_after, times) (free, frees) arrives =
      let its = numbered net settings request listed plan all number place is (step_of run) run.enter move time.begins (subst (λ tick. tick ≤ℤ pos settings.horizon) time.timed time.ends) in
      let on = goes_on net request book place run next free.waits run.stops refl goes_after in (
        record { number = its.0; enter = run.enter },
        next_planned number place is run move time free.pieces its.0 its.1 no_end among next runs on
            (λ to is_there. plan_from runs next to (place_after net request.train place (step_of run)) is_there moves places times frees arrives),
      )

  plan_all : (runs : List Run) → AreMoves net request start_place runs → ArePlaces net request start_place runs → TakeTheirTime net settings request start_place runs → AreFree net settings request.train (claims_held book) start_place runs
      → OfFirst (λ run. IsInside request.depart run.enter) runs → OfLast (λ run. IsInside request.arrive run.leave) runs
      → (steps : List PlannedStep) × (IsPath plan (trip_of request) steps × PathFits plan book steps × OfLast (λ last. last.leave ≡ arrival plan steps) runs)
  plan_all [] moves places times frees departs arrives = absurd departs
  plan_all (run ∷ runs) moves places times frees departs arrives =
      let is = plan_from runs run 0 start_place (at_start net settings request listed plan all) moves places times frees arrives in
      let of = is.1.1 in
      (is.0 ∷ is.1.0, ((of.move, subst (Holds request.depart) (sym of.enters) departs, of.rest), (of.fits, of.rest_fits), of.ends))

pub granted_planned : PathsAreMoves → FitsRunByRun → GrantedPathsArePlanned
granted_planned moves_law fits_law net settings request listed plan book path all ticks can =
    let from : IsPlannedFrom net settings request listed plan = record { moves = all.moves; planned = all.planned } in
    let long = all.asked.train.length_m.0 in
    let both = moves_law net settings request path long can.some can.blocks can.keeps in
    let made = both.0 in
    let long_train = subst (λ (train : Train). 1 ≤ train.length_m) (sym made.train) long in
    let frees = (fits_law net settings path (Asked request) (claims_held book) all.flawless long_train can.keeps ticks).stairway.0 can.fits in
    let is = plan_all net settings request listed plan from book path.runs made.moves both.1 made.times (subst (λ train. AreFree net settings train (claims_held book) start_place path.runs) made.train frees) made.departs made.arrives in (
      is.0,
      record {
        path_is = is.1.0;
        fits = is.1.1;
        leaves = sym (last_is (λ run. run.leave ≡ arrival plan is.0) (record { block = 0; enter = pos 0; leave = pos 0; stops = false }) path.runs is.1.2);
      },
    )
