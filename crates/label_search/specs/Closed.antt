-- Sets of places and ticks that no move leads out of.
use Rattle.std.specs.Prelude.{◌≡◌, ℕ, ℤ, pos, ◌-ℤ◌, ◌≤ℤ◌, List, [], ◌∷◌, Any}
use Rattle.label_search.specs.declared.plans.Target.{Target}
use Rattle.label_search.specs.declared.plans.Target.TheVariants.{Place as To, End}
use Rattle.label_search.specs.declared.plans.Plan.{Plan}
use Rattle.label_search.specs.declared.plans.Trip.{Trip}
use Rattle.label_search.specs.declared.plans.Step.{Step}
use Rattle.label_search.specs.declared.plans.Member.{Member}
use Rattle.label_search.specs.Free.{Book}
use Rattle.free_windows.specs.Free.{Holds}
use Rattle.label_search.specs.declared.limits.Limits.{Limits}
use Rattle.label_search.specs.Limits.{IsBelow}
use Rattle.label_search.specs.Paths.{IsMove, MoveFits, Enters, WaitFits, place_at, move_at}
use Rattle.label_search.specs.Paths.{target_of, leave_of}

abbrev pub IsHeld : List Member → ℕ → ℤ → Type 0
IsHeld members place tick = Any (λ member. (member.place ≡ place)
    × Holds member.window tick) members

-- what is reached is held, or an end outside the window of arrival
abbrev pub Admits : Trip → (ℕ → ℤ → Type 0) → Target → ℤ → Type 0
Admits trip Held (To place) leave = Held place leave
Admits trip Held End leave = ¬ Holds trip.arrive leave

-- a move at a tick, within the plan, whose pieces fit
abbrev pub IsFreeMove : Plan → Book → ℕ → Step → Type 0
IsFreeMove plan book place step = IsMove plan place step × MoveFits plan book place step

-- the members hold what each free move from the start and from a member leads to, and no free end
-- arrives in the window of arrival
pub record IsClosed (plan : Plan) (trip : Trip) (book : Book) (members : List Member) : Type 0 where
  pub start : (step : Step) → Holds trip.depart step.enter → IsFreeMove plan book 0 step
      → Admits trip (IsHeld members) (target_of plan 0 step) (leave_of plan 0 step)
  pub moves : (place : ℕ) (tick : ℤ) (step : Step) → IsHeld members place tick
      → Enters (place_at plan place) tick step.enter
      → WaitFits book (place_at plan place) tick step.enter → IsFreeMove plan book place step
      → Admits trip (IsHeld members) (target_of plan place step) (leave_of plan place step)

-- the same of all that may end below a limit, for places and ticks that are held somehow
pub record IsClosedBelow (plan : Plan) (limits : Limits) (trip : Trip) (book : Book)
    (Held : ℕ → ℤ → Type 0) : Type 0 where
  pub start : (step : Step) → Holds trip.depart step.enter → IsFreeMove plan book 0 step
      → IsBelow limits (target_of plan 0 step) (leave_of plan 0 step)
      → Admits trip Held (target_of plan 0 step) (leave_of plan 0 step)
  pub moves : (place : ℕ) (tick : ℤ) (step : Step) → Held place tick
      → Enters (place_at plan place) tick step.enter
      → WaitFits book (place_at plan place) tick step.enter → IsFreeMove plan book place step
      → IsBelow limits (target_of plan place step) (leave_of plan place step)
      → Admits trip Held (target_of plan place step) (leave_of plan place step)

-- the trip whose window of arrival ends one tick before a tick
abbrev pub before : Trip → ℤ → Trip
before trip tick = record {
  depart = trip.depart;
  arrive = record { from = trip.arrive.from; to = tick -ℤ pos 1 };
}

-- a move of the plan leads from the one place to the other
abbrev pub IsNextTo : Plan → ℕ → ℕ → Type 0
IsNextTo plan from place = (number : ℕ) × ((move_at plan from number).target ≡ To place)

-- moves of the plan lead to the place from place 0, over these places, of which the last stands
-- first
abbrev pub IsLedOver : Plan → List ℕ → ℕ → Type 0
IsLedOver plan [] place = IsNextTo plan 0 place
IsLedOver plan (from ∷ before) place = IsLedOver plan before from × IsNextTo plan from place

-- moves of the plan lead to the place from place 0
abbrev pub IsLedTo : Plan → ℕ → Type 0
IsLedTo plan place = (over : List ℕ) × IsLedOver plan over place

-- a place that moves lead to, and one tick at least, all of them ticks of the plan
pub record IsMemberOf (plan : Plan) (member : Member) : Type 0 where
  pub place : IsLedTo plan member.place
  pub some : member.window.from ≤ℤ member.window.to
  pub ticks : (pos 0 ≤ℤ member.window.from) × (member.window.to ≤ℤ plan.horizon)
