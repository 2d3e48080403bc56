-- Closed members exclude paths.
use Rattle.std.proofs.Common.{◌≡◌, inl, inr, sym, ap, refl, subst, ℕ, ◌-◌, ◌≤◌, ℤ, pos, ◌+ℤ◌, ◌<ℤ◌, ◌≤ℤ◌, Bool, true, false, List, [], ◌∷◌, length, Some, arith}
use Rattle.std.specs.Prelude.{slice_get}
use Rattle.std.proofs.lemmas.Int.{ints, by_lt_z}
use Rattle.rail_types.specs.declared.tracks.Network.{Network}
use Rattle.rail_types.specs.declared.trains.Train.{Train}
use Rattle.rail_types.specs.declared.trains.Request.{Request}
use Rattle.rail_types.specs.declared.entries.Settings.{Settings}
use Rattle.rail_types.specs.declared.entries.Wanted.TheVariants.{Asked}
use Rattle.rail_types.specs.declared.paths.Claim.{Claim}
use Rattle.rail_types.specs.declared.paths.Run.{Run}
use Rattle.rail_types.specs.Occupation.{Fits}
use Rattle.blocking_time.specs.Runs.{block_at, exit_of}
use Rattle.stair_pieces.specs.declared.places.Place.{Place}
use Rattle.stair_pieces.specs.Places.{start_place, step_of, place_after, made_after, standing_zones}
use Rattle.stair_pieces.specs.Pieces.{kept, wait_end}
use Rattle.stair_pieces.specs.Fitting.{AreFree, IsFree, FitsRunByRun}
use Rattle.stair_pieces.specs.Moves.{AreMoves, GoesOnAfter, IsEnd, IsInside, IsMove, MakesStop, MayLeave, OfFirst, OfLast, PathsAreMoves, TakesItsTime, TakeTheirTime}
use Rattle.tail_states.specs.declared.certificates.Member.{Member}
use Rattle.tail_states.specs.Closing.{ExcludesAllPaths, ExcludesEarlierPaths, GoesOn, IsAdmitted, IsClosedBelow, IsFreeMove, leaves_at}

module _ (net : Network) (settings : Settings) (request : Request) (live : List Claim) (below : ℤ) (members : List Member) (closed : IsClosedBelow net settings request live below members) where
  abbrev after : Place → Run → Place
  after place run = place_after net request.train place (step_of run)

  abbrev EndsLate : List Run → Type 0
  EndsLate runs = OfLast (λ run. below ≤ℤ run.leave) runs

  -- a run that stops, and ends no path, makes a stop
  makes : (place : Place) (run : Run) → IsMove net request place (step_of run) → ¬ IsEnd request place (step_of run) → run.stops ≡ true → MakesStop request place.made (block_at net run.block)
  makes place run move no_end stops =
      let leaves : MayLeave request place.made (block_at net run.block) (exit_of true) = subst (λ b. MayLeave request place.made (block_at net run.block) (exit_of b)) stops move.leaves in
      elim leaves [ inl stop ↦ stop | inr arrives ↦ absurd (no_end (ap exit_of stops, arrives.0)) ]

  enters_late : (place : Place) (run next : Run) → IsMove net request place (step_of run) → ¬ IsEnd request place (step_of run) → (stops : Bool) → run.stops ≡ stops → GoesOnAfter request place.made stops run next → run.leave ≤ℤ next.enter
  enters_late place run next move no_end true is waits = let stop = makes place run move no_end is in let late = waits stop.0 stop.1 in omega (arith, ints)
  enters_late place run next move no_end false is at_once = omega (arith, ints)

  takes_time : (place : Place) (run : Run) → TakesItsTime net settings request place run → run.enter ≤ℤ run.leave
  takes_time place run time = rw time.timed (grows run.enter _)
    where
      grows : (a : ℤ) (n : ℕ) → a ≤ℤ (a +ℤ pos n)
      grows a n = omega (arith, ints)

  -- runs behind one that ends late end late
  late_then : (runs : List Run) (run : Run) (place : Place) → below ≤ℤ run.leave → AreMoves net request place (run ∷ runs) → TakeTheirTime net settings request place (run ∷ runs) → EndsLate (run ∷ runs)
  late_then [] run place late moves times = late
  late_then (next ∷ runs) run place late (move, no_end, moves) (time, goes_on, times) =
      let entered = enters_late place run next move no_end run.stops refl goes_on in
      let timed = takes_time (after place run) next (first_time runs times) in
      late_then runs next (after place run) (omega (arith, ints)) moves times
    where
      first_time : (runs : List Run) → TakeTheirTime net settings request (after place run) (next ∷ runs) → TakesItsTime net settings request (after place run) next
      first_time [] times = times
      first_time (other ∷ runs) times = times.0

  free_move : (place : Place) (run : Run) (until : ℤ) → IsMove net request place (step_of run) → TakesItsTime net settings request place run → IsFree net settings request.train live place run until → IsFreeMove net settings request live place (step_of run) run.enter
  free_move place run until move time free = record { move = move; begins = time.begins; ends = subst (λ tick. tick ≤ℤ pos settings.horizon) time.timed time.ends; pieces = free.pieces }

  goes_on_there : (place : Place) (run next : Run) → Fits (kept (standing_zones net request.train (after place run)) run.leave next.enter) live → (stops : Bool) → run.stops ≡ stops → GoesOnAfter request place.made stops run next → GoesOn net request live (after place run) run.leave next.enter
  goes_on_there place run next free true is waits = record {
    rolls = λ no. (let stands : true ≡ false = rw is at no in cc);
    dwells = λ stands stop named. waits stop (subst (λ n. slice_get request.stops n ≡ Some stop) (one_less is) named);
    waits = free;
  }
    where
      one_less : run.stops ≡ true → made_after place.made (exit_of run.stops) - 1 ≡ place.made
      one_less is = rw is (omega arith)
  goes_on_there place run next free false is at_once = record {
    rolls = λ no. at_once;
    dwells = λ stands stop named. (let rolls : false ≡ true = rw is at stands in cc);
    waits = free;
  }

  abbrev Admits : Place → Run → Type 0
  Admits place run =
      IsFreeMove net settings request live place (step_of run) run.enter → leaves_at net settings request place (step_of run) run.enter <ℤ below
      → IsAdmitted net settings request live members place (step_of run) (leaves_at net settings request place (step_of run) run.enter)

  ends_late : (runs : List Run) (run : Run) (place : Place) → Admits place run → AreMoves net request place (run ∷ runs) → TakeTheirTime net settings request place (run ∷ runs)
      → AreFree net settings request.train live place (run ∷ runs) → OfLast (λ run. IsInside request.arrive run.leave) (run ∷ runs) → EndsLate (run ∷ runs)
  ends_late [] run place admits (move, end) time (free, none) arrives = by_lt_z run.leave below
      (λ early.
      let there = admits (free_move place run (wait_end settings run []) move time free) (subst (λ tick. tick <ℤ below) time.timed early) in
      let admitted : IsAdmitted net settings request live members place (step_of run) run.leave = subst (IsAdmitted net settings request live members place (step_of run)) (sym time.timed) there in
      absurd (admitted.ends end free.waits arrives))
      (λ late. late)
  ends_late (next ∷ runs) run place admits (move, no_end, moves) (time, goes_on, times) (free, frees) arrives = by_lt_z run.leave below
      (λ early.
      let there = admits (free_move place run (wait_end settings run (next ∷ runs)) move time free) (subst (λ tick. tick <ℤ below) time.timed early) in
      let admitted : IsAdmitted net settings request live members place (step_of run) run.leave = subst (IsAdmitted net settings request live members place (step_of run)) (sym time.timed) there in
      let on = goes_on_there place run next free.waits run.stops refl goes_on in
      ends_late runs next (after place run) (λ free_next early_next. closed.moves (after place run) (step_of next) run.leave next.enter (admitted.held no_end) on free_next early_next) moves times frees arrives)
      (λ late. late_then (next ∷ runs) run place late (move, no_end, moves) (time, goes_on, times))

  all_late : (runs : List Run) → 1 ≤ length runs → AreMoves net request start_place runs → TakeTheirTime net settings request start_place runs → AreFree net settings request.train live start_place runs
      → OfFirst (λ run. IsInside request.depart run.enter) runs → OfLast (λ run. IsInside request.arrive run.leave) runs → EndsLate runs
  all_late [] some moves times frees departs arrives = absurd departs
  all_late (run ∷ runs) some moves times frees departs arrives = ends_late runs run start_place (λ free early. closed.start (step_of run) run.enter departs free early) moves times frees arrives

module _ (moves : PathsAreMoves) (fits : FitsRunByRun) where
  pub excludes_earlier : ExcludesEarlierPaths
  excludes_earlier net settings request live below members path sound long ticks closed can =
      let made = (moves net settings request path long can.some can.blocks can.keeps).0 in
      let long_train = subst (λ (train : Train). 1 ≤ train.length_m) (sym made.train) long in
      let frees = (fits net settings path (Asked request) live sound long_train can.keeps ticks).stairway.0 can.fits in
      all_late net settings request live below members closed path.runs can.some made.moves made.times
      (subst (λ train. AreFree net settings train live start_place path.runs) made.train frees) made.departs made.arrives

  -- each run of a path ends within the horizon
  never_late : (net : Network) (settings : Settings) (request : Request) (runs : List Run) (place : Place) → TakeTheirTime net settings request place runs → OfLast (λ run. (pos settings.horizon +ℤ pos 1) ≤ℤ run.leave) runs → ⊥
  never_late net settings request [] place times late = late
  never_late net settings request (run ∷ []) place time late = let ends = time.ends in omega (arith, ints)
  never_late net settings request (run ∷ (next ∷ runs)) place (time, goes_on, times) late = never_late net settings request (next ∷ runs) (place_after net request.train place (step_of run)) times late

  pub excludes_all : ExcludesAllPaths
  excludes_all net settings request live members sound long ticks closed (path, can) =
      let made = (moves net settings request path long can.some can.blocks can.keeps).0 in
      never_late net settings request path.runs start_place made.times (excludes_earlier net settings request live (pos settings.horizon +ℤ pos 1) members path sound long ticks closed can)
