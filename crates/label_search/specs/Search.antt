-- What holds of the labels of a search and of the best end that it has found.
use Rattle.std.specs.Prelude.{◌≡◌, ℕ, ◌<◌, ℤ, pos, ◌+ℤ◌, ◌-ℤ◌, ◌<ℤ◌, ◌≤ℤ◌, List, length, take}
use Rattle.std.specs.Prelude.{slice_index_or, Bool, true, false, IsTrue, Option, None, Some, IfSome}
use Rattle.std.specs.Int.{int_min}
use Rattle.rail_types.specs.declared.paths.Window.{Window}
use Rattle.label_search.specs.declared.plans.Target.{Target}
use Rattle.label_search.specs.declared.plans.Target.TheVariants.{Place as To, End}
use Rattle.label_search.specs.declared.plans.Plan.{Plan}
use Rattle.label_search.specs.declared.plans.Trip.{Trip}
use Rattle.label_search.specs.declared.plans.Step.{Step}
use Rattle.label_search.specs.declared.labels.Label.{Label}
use Rattle.label_search.specs.declared.labels.Front.{Front}
use Rattle.label_search.specs.declared.labels.Origin.{Origin}
use Rattle.label_search.specs.declared.labels.Origin.TheVariants.{Start, Wait, Move}
use Rattle.label_search.specs.declared.searches.Ending.{Ending}
use Rattle.label_search.specs.declared.searches.Search.{Search}
use Rattle.label_search.specs.Free.{Book}
use Rattle.free_windows.specs.Free.{Holds}
use Rattle.label_search.specs.Paths.{place_at, move_at, leave_of, WaitFits}
use Rattle.label_search.specs.Closed.{IsFreeMove}
use Rattle.label_search.specs.Labels.{IsReached, IsGrown, label_at}
use Rattle.label_search.specs.Limits.{IsBelow, IsLimits}

-- the train is reached at the tick so that it can go on
abbrev pub CanGo : Plan → List Label → ℕ → Bool → ℤ → Type 0
CanGo plan labels place ready tick = IsReached labels place ready tick
    × (IsTrue (place_at plan place).standing → ready ≡ true)

-- when a train that goes on at a tick came, at the latest
abbrev pub came_at : Plan → ℕ → Window → ℤ → ℤ
came_at plan place arrivals tick = int_min arrivals.to (tick -ℤ (place_at plan place).dwell)

abbrev pub step_at : ℕ → ℤ → Step
step_at number enter = record { number = number; enter = enter }

-- the train entered the move so many ticks before it left
abbrev pub entered_at : Plan → ℕ → ℕ → ℤ → ℤ
entered_at plan place number leave = leave -ℤ (move_at plan place number).run

-- the tick came from a wait
pub record IsWaited (plan : Plan) (book : Book) (labels : List Label) (arrivals : Window)
    (place : ℕ) (tick : ℤ) : Type 0 where
  pub standing : IsTrue (place_at plan place).standing
  pub came : IsReached labels place false (came_at plan place arrivals tick)
  pub fits : WaitFits book (place_at plan place) (came_at plan place arrivals tick) tick

-- the tick came from a move
pub record IsMoved (plan : Plan) (book : Book) (labels : List Label) (from : ℕ) (before : Bool)
    (number : ℕ) (place : ℕ) (tick : ℤ) : Type 0 where
  pub inside : from < length plan.places
  pub target : (move_at plan from number).target ≡ To place
  pub came : CanGo plan labels from before (entered_at plan from number tick)
  pub free : IsFreeMove plan book from (step_at number (entered_at plan from number tick))

-- where a tick came from
abbrev pub IsCome : Plan → Trip → Book → List Label → Origin → ℕ → Bool → ℤ → Type 0
IsCome plan trip book labels Start place ready tick = (place ≡ 0) × (ready ≡ true)
    × Holds trip.depart tick
IsCome plan trip book labels (Wait arrivals) place ready tick = (ready ≡ true)
    × IsWaited plan book labels arrivals place tick
IsCome plan trip book labels (Move from before number) place ready tick = (ready ≡ false)
    × IsMoved plan book labels from before number place tick

-- ticks that a search may note: within the plan, and each came from somewhere
pub record IsWanted (plan : Plan) (trip : Trip) (book : Book) (labels : List Label)
    (label : Label) : Type 0 where
  pub place : label.place < length plan.places
  pub ticks : (pos 0 ≤ℤ label.ticks.from) × (label.ticks.to ≤ℤ plan.horizon)
  pub come : (tick : ℤ) → Holds label.ticks tick → IsCome plan trip book labels label.origin
      label.place label.ready tick

pub record IsLabelOf (plan : Plan) (trip : Trip) (book : Book) (labels : List Label)
    (label : Label) : Type 0 where
  pub wanted : IsWanted plan trip book labels label
  pub some : label.ticks.from ≤ℤ label.ticks.to

-- the ticks of each label came from labels before it
abbrev pub IsSound : Plan → Trip → Book → List Label → Type 0
IsSound plan trip book labels = (number : ℕ) (d : Label) → number < length labels
    → IsLabelOf plan trip book (take number labels) (slice_index_or labels number d)

-- an end in the window of arrival, by a free move at a tick that is reached
pub record IsEnd (plan : Plan) (trip : Trip) (book : Book) (labels : List Label) (place : ℕ)
    (ready : Bool) (number : ℕ) (leave : ℤ) : Type 0 where
  pub inside : place < length plan.places
  pub target : (move_at plan place number).target ≡ End
  pub came : CanGo plan labels place ready (entered_at plan place number leave)
  pub free : IsFreeMove plan book place (step_at number (entered_at plan place number leave))
  pub arrives : Holds trip.arrive leave

abbrev pub IsEnding : Plan → Trip → Book → List Label → Ending → Type 0
IsEnding plan trip book labels ending = IsEnd plan trip book labels ending.place ending.ready
    ending.number ending.arrive.from

-- the best end lies below the limit
abbrev pub IsLow : ℤ → Option Ending → Type 0
IsLow below None = Unit {0}
IsLow below (Some ending) = ending.arrive.from <ℤ below

pub record IsSearch (plan : Plan) (trip : Trip) (book : Book) (search : Search) : Type 0 where
  pub places : search.labels.places ≡ length plan.places
  pub sound : IsSound plan trip book search.labels.labels
  pub best : IfSome search.best (IsEnding plan trip book search.labels.labels)
  pub limits : IsLimits search.limits
  pub low : IsLow search.limits.below search.best

-- the best end is at that tick or earlier
abbrev pub IsBeaten : Option Ending → ℤ → Type 0
IsBeaten None leave = ⊥
IsBeaten (Some ending) leave = ending.arrive.from ≤ℤ leave

-- what a move leads to is reached, or beaten where it is an end in the window of arrival
abbrev pub IsAdmitted : Trip → Search → Target → ℤ → Type 0
IsAdmitted trip search (To place) leave = IsReached search.labels.labels place false leave
IsAdmitted trip search End leave = Holds trip.arrive leave → IsBeaten search.best leave

abbrev pub IsMoveExplored : Plan → Trip → Book → ℕ → ℤ → ℕ → Search → Type 0
IsMoveExplored plan trip book place tick number search = IsFreeMove plan book place (step_at
    number tick) → IsBelow search.limits (move_at plan place number).target (leave_of plan place
    (step_at number tick)) → IsAdmitted trip search (move_at plan place number).target (leave_of
    plan place (step_at number tick))

abbrev pub AreWaitsExplored : Plan → Book → ℕ → ℤ → Search → Type 0
AreWaitsExplored plan book place tick search = (enter : ℤ)
    → (tick +ℤ (place_at plan place).dwell) ≤ℤ enter → enter ≤ℤ plan.horizon
    → WaitFits book (place_at plan place) tick enter
    → IsReached search.labels.labels place true enter

-- all that a train can do at a tick of a place is in the search
pub record IsExplored (plan : Plan) (trip : Trip) (book : Book) (search : Search) (place : ℕ)
    (ready : Bool) (tick : ℤ) : Type 0 where
  pub waits : IsTrue (place_at plan place).standing → ready ≡ false
      → AreWaitsExplored plan book place tick search
  pub moves : (IsTrue (place_at plan place).standing → ready ≡ true) → (number : ℕ)
      → number < length (place_at plan place).moves
      → IsMoveExplored plan trip book place tick number search

-- the train can start at each tick in the window of departure
abbrev pub IsStarted : Plan → Trip → Search → Type 0
IsStarted plan trip search = (enter : ℤ) → Holds trip.depart enter → pos 0 ≤ℤ enter
    → enter ≤ℤ plan.horizon → IsReached search.labels.labels 0 true enter

-- the ticks of so many labels are explored
abbrev pub IsExploredTo : Plan → Trip → Book → (Search → ℕ) → Search → Type 0
IsExploredTo plan trip book count search = (number : ℕ) → number < count search → (tick : ℤ)
    → Holds (label_at search.labels.labels number).ticks tick
    → IsExplored plan trip book search (label_at search.labels.labels number).place (label_at
    search.labels.labels number).ready tick

-- a window of ticks that are reached
pub record IsFrontOf (plan : Plan) (search : Search) (front : Front) : Type 0 where
  pub place : front.place < length plan.places
  pub ticks : (pos 0 ≤ℤ front.ticks.from) × (front.ticks.to ≤ℤ plan.horizon)
  pub reached : (tick : ℤ) → Holds front.ticks tick
      → IsReached search.labels.labels front.place front.ready tick

-- more labels, and no later end, below the same limit
pub record IsFurther (old new : Search) : Type 0 where
  pub grown : IsGrown (λ label. Unit {0}) old.labels.labels new.labels.labels
  pub better : (leave : ℤ) → IsBeaten old.best leave → IsBeaten new.best leave
  pub limits : new.limits ≡ old.limits

-- one of the ticks of an ending, in the window of arrival
abbrev pub IsOneOf : Trip → Ending → Option Ending → Type 0
IsOneOf trip ending None = ⊥
IsOneOf trip ending (Some one) = (one.place ≡ ending.place) × (one.ready ≡ ending.ready)
    × (one.number ≡ ending.number) × Holds ending.arrive one.arrive.from
    × Holds trip.arrive one.arrive.from
