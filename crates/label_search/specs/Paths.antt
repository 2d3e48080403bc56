-- Paths over places, and when they fit.
use Rattle.std.specs.Prelude.{◌≡◌, ℕ, ◌<◌, ℤ, pos, ◌+ℤ◌, ◌<ℤ◌, ◌≤ℤ◌, List, [], ◌∷◌, false, length}
use Rattle.std.specs.Prelude.{slice_index_or, IsTrue}
use Rattle.label_search.specs.declared.plans.Target.{Target}
use Rattle.label_search.specs.declared.plans.Target.TheVariants.{Place as To, End}
use Rattle.label_search.specs.declared.plans.Move.{Move}
use Rattle.label_search.specs.declared.plans.Place.{Place}
use Rattle.label_search.specs.declared.plans.Plan.{Plan}
use Rattle.label_search.specs.declared.plans.Trip.{Trip}
use Rattle.label_search.specs.declared.plans.Step.{Step}
use Rattle.label_search.specs.Free.{Book, Fits}
use Rattle.free_windows.specs.Free.{Holds}

abbrev pub place_at : Plan → ℕ → Place
place_at plan place = slice_index_or plan.places place (record {
  standing = false;
  dwell = pos 0;
  waits = [];
  moves = [];
})

abbrev pub move_at : Plan → ℕ → ℕ → Move
move_at plan place number = slice_index_or (place_at plan place).moves number (record {
  target =
      End;
  run = pos 0;
  pieces = [];
})

abbrev pub target_of : Plan → ℕ → Step → Target
target_of plan place step = (move_at plan place step.number).target

abbrev pub leave_of : Plan → ℕ → Step → ℤ
leave_of plan place step = step.enter +ℤ (move_at plan place step.number).run

-- a move of the place, within the ticks of the plan
abbrev pub IsMove : Plan → ℕ → Step → Type 0
IsMove plan place step = (step.number < length (place_at plan place).moves)
    × (pos 0 ≤ℤ step.enter) × (leave_of plan place step ≤ℤ plan.horizon)

abbrev pub MoveFits : Plan → Book → ℕ → Step → Type 0
MoveFits plan book place step = Fits book (move_at plan place step.number).pieces step.enter

-- a train that stands waits for its dwell at least, and one that does not goes on at once
abbrev pub Enters : Place → ℤ → ℤ → Type 0
Enters place arrive enter = (IsTrue place.standing → (arrive +ℤ place.dwell) ≤ℤ enter)
    × (¬ IsTrue place.standing → enter ≡ arrive)

-- each tick of the wait is free
abbrev pub WaitFits : Book → Place → ℤ → ℤ → Type 0
WaitFits book place arrive enter = (tick : ℤ) → arrive ≤ℤ tick → tick <ℤ enter
    → Fits book place.waits tick

-- what follows a move: nothing behind an end, which lies in the window of arrival; else a move from
-- the place that is reached, after the wait there
abbrev pub IsRest : Plan → Trip → Target → ℤ → List Step → Type 0
IsRest plan trip End leave [] = Holds trip.arrive leave
IsRest plan trip End leave (step ∷ steps) = ⊥
IsRest plan trip (To place) leave [] = ⊥
IsRest plan trip (To place) leave (step ∷ steps) = IsMove plan place step
    × Enters (place_at plan place) leave step.enter
    × IsRest plan trip (target_of plan place step) (leave_of plan place step) steps

-- a path begins with a move from place 0 in the window of departure
abbrev pub IsPath : Plan → Trip → List Step → Type 0
IsPath plan trip [] = ⊥
IsPath plan trip (step ∷ steps) = IsMove plan 0 step × Holds trip.depart step.enter
    × IsRest plan trip (target_of plan 0 step) (leave_of plan 0 step) steps

abbrev pub RestFits : Plan → Book → Target → ℤ → List Step → Type 0
RestFits plan book End leave steps = Unit {0}
RestFits plan book (To place) leave [] = Unit {0}
RestFits plan book (To place) leave (step ∷ steps) = WaitFits book (place_at plan place) leave
    step.enter × MoveFits plan book place step × RestFits plan book (target_of plan place step)
    (leave_of plan place step) steps

-- the pieces of all moves fit at their ticks, and so does each wait
abbrev pub PathFits : Plan → Book → List Step → Type 0
PathFits plan book [] = Unit {0}
PathFits plan book (step ∷ steps) = MoveFits plan book 0 step
    × RestFits plan book (target_of plan 0 step) (leave_of plan 0 step) steps

-- the tick at which a path leaves last, after a move
abbrev pub last_leave : Plan → Target → ℤ → List Step → ℤ
last_leave plan End leave steps = leave
last_leave plan (To place) leave [] = leave
last_leave plan (To place) leave (step ∷ steps) = last_leave plan (target_of plan place step)
    (leave_of plan place step) steps

abbrev pub arrival : Plan → List Step → ℤ
arrival plan [] = pos 0
arrival plan (step ∷ steps) = last_leave plan (target_of plan 0 step) (leave_of plan 0 step) steps

-- a path that fits, for the trip
abbrev pub Possible : Plan → Trip → Book → Type 0
Possible plan trip book = (steps : List Step) × IsPath plan trip steps × PathFits plan book steps
