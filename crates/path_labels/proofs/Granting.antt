-- Planned paths that fit are paths that can be granted.
use Rattle.std.proofs.Common.{◌≡◌, ◌∙◌, sym, ap, refl, subst, ℕ, suc, ◌+◌, ◌-◌, ◌<◌, ℤ, pos, ◌+ℤ◌, ◌≤ℤ◌, Bool, true, false, List, [], ◌∷◌, ◌++◌, length, length-append, get_or, All, arith}
use Rattle.std.specs.Prelude.{IsTrue, slice_get}
use Rattle.std.proofs.lemmas.Int.{ints}
use Rattle.std.proofs.lemmas.List.{get_or_append_left, get_or-append_right}
use Rattle.rail_types.specs.declared.tracks.Network.{Network}
use Rattle.rail_types.specs.declared.trains.Request.{Request}
use Rattle.rail_types.specs.declared.entries.Settings.{Settings}
use Rattle.rail_types.specs.declared.entries.Wanted.TheVariants.{Asked}
use Rattle.rail_types.specs.declared.paths.Run.{Run}
use Rattle.rail_types.specs.Occupation.{Fits}
use Rattle.occupation_book.specs.Held.{IsFree, held}
use Rattle.free_windows.specs.Free.{Fits as FitsAmong, Holds, moved}
use Rattle.running_time.specs.declared.edges.Edge.{Edge}
use Rattle.running_time.specs.declared.edges.Edge.TheVariants.{Still as Halted, Rolling}
use Rattle.blocking_time.specs.Runs.{exit_of}
use Rattle.stair_pieces.specs.declared.places.Place.{Place}
use Rattle.stair_pieces.specs.declared.places.Step.{Step}
use Rattle.stair_pieces.specs.Places.{start_place, step_of, place_after, standing_zones, stands_after, made_after}
use Rattle.stair_pieces.specs.Pieces.{pieces_of, kept, later_by}
use Rattle.stair_pieces.specs.Fitting.{AreFree, FitsRunByRun}
use Rattle.stair_pieces.specs.Moves.{AreMoves, GoesOnAfter, IsEnd, IsInside, IsMove, MovesAreAPath, OfLast, TakesItsTime, TakeTheirTime}
use Rattle.tail_states.specs.declared.moves.Next.TheVariants.{End as Ends}
use Rattle.tail_states.specs.Closing.{leaves_at}
use Rattle.tail_states.specs.Listed.{Listed}
use Rattle.label_search.specs.declared.plans.Target.{Target}
use Rattle.label_search.specs.declared.plans.Target.TheVariants.{Place as To, End}
use Rattle.label_search.specs.declared.plans.Plan.{Plan}
use Rattle.label_search.specs.declared.plans.Move.{Move as PlannedMove}
use Rattle.label_search.specs.declared.plans.Place.{Place as PlannedPlace}
use Rattle.label_search.specs.declared.plans.Step.{Step as PlannedStep}
use Rattle.label_search.specs.Free.{Book}
use Rattle.label_search.specs.Paths.{Enters, IsMove as IsPlannedMove, IsRest, MoveFits, RestFits, WaitFits, arrival, last_leave as last_of, leave_of, place_at, target_of}
use Rattle.path_labels.specs.Plans.{dwell_at, dwell_of, kept_behind, move_in, place_in, ticks_of_step}
use Rattle.path_labels.specs.Answers.{claims_held}
use Rattle.path_labels.specs.Joining.{HoldsTicks, IsPlannedFrom, PlannedPathsAreGranted, move_of, moves_of, path_in, run_of, runs_from, trip_of}
use Rattle.path_labels.proofs.Fitting.{AreFreeOver, fits_later, kept_of_over, over_all, over_of_moved}
use Rattle.path_labels.proofs.Standing.{IsAt, LeadsOn, at_start, count_is, ends_there, is_end, leads_on, leaves_alike, listed_at, move_is}

pub exit_same : (exit : Edge) → exit_of (stands_after exit) ≡ exit
exit_same Halted = refl
exit_same Rolling = refl

step_same : (step : Step) → record { block = step.block; exit = exit_of (stands_after step.exit) } ≡ step
step_same step = ap (λ (e : Edge). record { block = step.block; exit = e }) (exit_same step.exit)

part_left : {X : Type 0} (P : X → Type 0) (xs ys : List X) → All P (xs ++ ys) → All P xs
part_left P xs ys all k d within = subst P (get_or_append_left xs ys d k within) (all k d (let long = length-append xs ys in omega (arith, within, long)))

part_right : {X : Type 0} (P : X → Type 0) (xs ys : List X) → All P (xs ++ ys) → All P ys
part_right P xs ys all k d within =
    subst P (get_or-append_right xs ys (length xs) (length xs + k) d refl (omega arith) ∙ ap (λ n. get_or ys n d) (less (length xs) k)) (all (length xs + k) d (let long = length-append xs ys in omega (arith, within, long)))
  where
    less : (n k : ℕ) → n + k - n ≡ k
    less n k = omega arith

module _ (net : Network) (settings : Settings) (request : Request) (listed : Listed) (plan : Plan) (all : IsPlannedFrom net settings request listed plan) (book : Book) (ticks : HoldsTicks book) where
  -- runs from a place that end at a tick are moves in their time, which are free
  pub record GoWell (place : Place) (last : ℤ) (runs : List Run) : Type 0 where
    pub moves : AreMoves net request place runs
    pub times : TakeTheirTime net settings request place runs
    pub free : AreFree net settings request.train (claims_held book) place runs
    pub arrives : OfLast (λ run. IsInside request.arrive run.leave) runs
    pub ends : OfLast (λ run. run.leave ≡ last) runs

  module _ (number : ℕ) (place : Place) (is : IsAt net settings request listed plan all number place) (step : PlannedStep) (move : IsPlannedMove plan number step) (fits : MoveFits plan book number step) where
    abbrev run : Run
    run = run_of listed plan number step

    abbrev the : Step
    the = (move_of listed number step.number).step

    within : step.number < length (moves_of listed number)
    within = subst (λ n. step.number < n) (count_is net settings request listed plan all number place is) move.0

    abbrev there : Place
    there = place_after net request.train place (step_of run)

    moves : IsMove net request place (step_of run)
    moves = subst (IsMove net request place) (sym (step_same the)) (listed_at net settings request listed plan all number place is step.number within).allowed

    both : FitsAmong (held book) (move_in net settings request place (move_of listed number step.number)).pieces step.enter
    both = subst (λ (one : PlannedMove). FitsAmong (held book) one.pieces step.enter) (move_is net settings request listed plan all number place is step.number within) fits

    pieces : Fits (later_by step.enter (pieces_of net settings request.train place (step_of run))) (claims_held book)
    pieces = subst (λ s. Fits (later_by step.enter (pieces_of net settings request.train place s)) (claims_held book)) (sym (step_same the))
        (fits_later book _ step.enter (part_left (λ piece. IsFree (held book) (moved step.enter piece)) (pieces_of net settings request.train place the) (kept_behind net settings request place the (move_of listed number step.number).next) both))

    leaves : leave_of plan number step ≡ leaves_at net settings request place (step_of run) step.enter
    leaves = leaves_alike net settings request listed plan all number place is step move ∙ ap (λ s. leaves_at net settings request place s step.enter) (sym (step_same the))

    time : TakesItsTime net settings request place run
    time = record { timed = leaves; begins = move.1; ends = subst (λ most. leave_of plan number step ≤ℤ most) all.planned.horizon move.2 }

    -- behind the last run the train keeps its zones through their release
    module _ (at : target_of plan number step ≡ End) where
      next : (move_of listed number step.number).next ≡ Ends
      next = ends_there net settings request listed plan all number place is step.number within at

      abbrev zones : List ℕ
      zones = standing_zones net request.train (place_after net request.train place the)

      abbrev run_ticks_there : ℤ
      run_ticks_there = ticks_of_step net settings request place the

      apart : (a b c : ℤ) → (a +ℤ (b +ℤ c)) ≡ ((a +ℤ b) +ℤ c)
      apart a b c = omega (arith, ints)

      run_is : (step.enter +ℤ run_ticks_there) ≡ leave_of plan number step
      run_is = sym (ap (λ (one : PlannedMove). step.enter +ℤ one.run) (move_is net settings request listed plan all number place is step.number within))

      behind : FitsAmong (held book) (kept zones run_ticks_there (run_ticks_there +ℤ pos settings.release)) step.enter
      behind = subst (λ next. FitsAmong (held book) (kept_behind net settings request place the next) step.enter) next
          (part_right (λ piece. IsFree (held book) (moved step.enter piece)) (pieces_of net settings request.train place the) (kept_behind net settings request place the (move_of listed number step.number).next) both)

      release : AreFreeOver book zones (leave_of plan number step) (leave_of plan number step +ℤ pos settings.release)
      release = subst (λ leave. AreFreeOver book zones leave (leave +ℤ pos settings.release)) run_is
          (subst (λ to. AreFreeOver book zones (step.enter +ℤ run_ticks_there) to) (apart step.enter run_ticks_there (pos settings.release)) (over_of_moved book zones run_ticks_there (run_ticks_there +ℤ pos settings.release) step.enter behind))

      pub last_run : Holds request.arrive (leave_of plan number step) → GoWell place (leave_of plan number step) (run ∷ [])
      last_run arrives = record {
        moves = (moves, subst (IsEnd request place) (sym (step_same the)) (is_end net settings request listed plan all number place is step.number within next));
        times = time;
        free = (
          record {
            pieces = pieces;
            waits = subst (λ s. Fits (kept (standing_zones net request.train (place_after net request.train place s)) (leave_of plan number step) (leave_of plan number step +ℤ pos settings.release)) (claims_held book)) (sym (step_same the)) (kept_of_over book zones _ _ release);
          },
          tt,
        );
        arrives = arrives;
        ends = refl;
      }

    goes_on_after : (stops : Bool) (leave : ℤ) (here other : Run) → here.leave ≡ leave → (IsTrue (stands_after (exit_of stops)) → (leave +ℤ dwell_at request (made_after place.made (exit_of stops)) (stands_after (exit_of stops))) ≤ℤ other.enter)
        → (¬ IsTrue (stands_after (exit_of stops)) → other.enter ≡ leave) → GoesOnAfter request place.made stops here other
    goes_on_after true leave here other same late at_once = λ stop named.
        let dwelt : (leave +ℤ dwell_of (slice_get request.stops place.made)) ≤ℤ other.enter = subst (λ n. (leave +ℤ dwell_of (slice_get request.stops n)) ≤ℤ other.enter) (one_less place.made) (late refl) in
        subst (λ tick. (tick +ℤ pos stop.dwell) ≤ℤ other.enter) (sym same) (subst (λ o. (leave +ℤ dwell_of o) ≤ℤ other.enter) named dwelt)
      where
        one_less : (n : ℕ) → n + 1 - 1 ≡ n
        one_less n = omega arith
    goes_on_after false leave here other same late at_once = at_once (λ never. (let wrong : false ≡ true = never in cc)) ∙ sym same

    -- before another run it goes on to where that begins
    module _ (to : ℕ) (at : target_of plan number step ≡ To to) where
      leads : LeadsOn net settings request listed plan all number place is step.number within to
      leads = leads_on net settings request listed plan all number place is step.number within to at

      pub is_there : IsAt net settings request listed plan all to there
      is_there = subst (λ s. IsAt net settings request listed plan all to (place_after net request.train place s)) (sym (step_same the)) leads.there

      pub another_run : (other : PlannedStep) (last : ℤ) (runs : List Run) → Enters (place_at plan to) (leave_of plan number step) other.enter → WaitFits book (place_at plan to) (leave_of plan number step) other.enter
          → GoWell there last (run_of listed plan to other ∷ runs) → GoWell place last (run ∷ run_of listed plan to other ∷ runs)
      another_run other last runs enters waits rest =
          let goes : Enters (place_in net settings request there (moves_of listed to)) (leave_of plan number step) other.enter = subst (λ (p : PlannedPlace). Enters p (leave_of plan number step) other.enter) is_there.planned enters in
          let zones = standing_zones net request.train there in
          record {
            moves = (moves, λ end. leads.no_end (subst (IsEnd request place) (step_same the) end), rest.moves);
            times = (time, goes_on_after run.stops (leave_of plan number step) run (run_of listed plan to other) refl goes.0 goes.1, rest.times);
            free = (
              record {
                pieces = pieces;
                waits = kept_of_over book zones (leave_of plan number step) other.enter (over_all book ticks zones (leave_of plan number step) other.enter
                    (λ tick low high. subst (λ (p : PlannedPlace). FitsAmong (held book) p.waits tick) is_there.planned (waits tick low high)));
              },
              rest.free,
            );
            arrives = rest.arrives;
            ends = rest.ends;
          }

  well : (steps : List PlannedStep) (step : PlannedStep) (number : ℕ) (place : Place) → IsAt net settings request listed plan all number place → IsPlannedMove plan number step → MoveFits plan book number step → (target : Target) → target_of plan number step ≡ target
      → IsRest plan (trip_of request) target (leave_of plan number step) steps → RestFits plan book target (leave_of plan number step) steps
      → GoWell place (last_of plan target (leave_of plan number step) steps) (run_of listed plan number step ∷ runs_from listed plan target steps)
  well [] step number place is move fits End at rest rest_fits = last_run number place is step move fits at rest
  well (other ∷ steps) step number place is move fits End at rest rest_fits = absurd rest
  well [] step number place is move fits (To to) at rest rest_fits = absurd rest
  well (other ∷ steps) step number place is move fits (To to) at (other_move, enters, rest) (waits, other_fits, rest_fits) =
      another_run number place is step move fits to at other (last_of plan (target_of plan to other) (leave_of plan to other) steps) (runs_from listed plan (target_of plan to other) steps) enters waits
      (well steps other to (place_after net request.train place (step_of (run_of listed plan number step))) (is_there number place is step move fits to at) other_move other_fits (target_of plan to other) refl rest rest_fits)

-- what is said of the last run
pub last_is : (Said : Run → Type 0) (d : Run) (runs : List Run) → OfLast Said runs → Said (get_or runs (length runs - 1) d)
last_is Said d [] said = absurd said
last_is Said d (first ∷ []) said = said
last_is Said d (first ∷ (second ∷ runs)) said = subst (λ n. Said (get_or (first ∷ (second ∷ runs)) n d)) (deeper (length runs)) (last_is Said d (second ∷ runs) said)
  where
    deeper : (n : ℕ) → suc (suc n - 1) ≡ suc (suc n) - 1
    deeper n = omega arith

pub planned_granted : MovesAreAPath → FitsRunByRun → PlannedPathsAreGranted
planned_granted moves_law fits_law net settings request listed plan book [] all ticks path fits = absurd path
planned_granted moves_law fits_law net settings request listed plan book (step ∷ steps) all ticks (move, departs, rest) (move_fits, rest_fits) =
    let from : IsPlannedFrom net settings request listed plan = record { moves = all.moves; planned = all.planned } in
    let good = well net settings request listed plan from book ticks steps step 0 start_place (at_start net settings request listed plan from) move move_fits (target_of plan 0 step) refl rest rest_fits in
    let path = path_in request listed plan (step ∷ steps) in
    let long = all.asked.train.length_m.0 in
    let made = moves_law net settings request path long (omega arith) (record { train = refl; moves = good.moves; times = good.times; departs = departs; arrives = good.arrives }) in
    record {
      granted = record { some = omega arith; blocks = made.0; keeps = made.1; fits = (fits_law net settings path (Asked request) (claims_held book) all.flawless long made.1 ticks).stairway.1 good.free };
      leaves = last_is (λ run. run.leave ≡ arrival plan (step ∷ steps)) (record { block = 0; enter = pos 0; leave = pos 0; stops = false }) path.runs good.ends;
    }
