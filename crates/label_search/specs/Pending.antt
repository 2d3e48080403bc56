-- Inside: what a search that goes on has still to look at.
use Rattle.std.specs.Prelude.{◌≡◌, ◌⊎◌, ℕ, ◌<◌, ◌≤◌, ℤ, pos, ◌+ℤ◌, ◌-ℤ◌, ◌<ℤ◌, ◌≤ℤ◌, List, length}
use Rattle.std.specs.Prelude.{Bool, false, true, IsTrue, Option, None, Some, if◌then◌else◌}
use Rattle.std.specs.Int.{int_max}
use Rattle.label_search.specs.declared.plans.Plan.{Plan}
use Rattle.label_search.specs.declared.plans.Trip.{Trip}
use Rattle.label_search.specs.declared.plans.Place.{Place}
use Rattle.label_search.specs.declared.labels.Label.{Label}
use Rattle.label_search.specs.declared.labels.Front.{Front}
use Rattle.label_search.specs.declared.searches.Ending.{Ending}
use Rattle.label_search.specs.declared.searches.Search.{Search}
use Rattle.label_search.specs.declared.limits.Ahead.{Ahead}
use Rattle.label_search.specs.declared.queues.Work.{Work}
use Rattle.label_search.specs.declared.queues.Work.TheVariants.{Leave, Wait, Move}
use Rattle.label_search.specs.declared.queues.Due.{Due}
use Rattle.label_search.specs.Free.{Book}
use Rattle.free_windows.specs.Free.{Holds}
use Rattle.label_search.specs.Paths.{place_at, move_at, leave_of, WaitFits}
use Rattle.label_search.specs.Limits.{ahead_at, ahead_of, least_wait}
use Rattle.label_search.specs.Labels.{IsReached, label_at}
use Rattle.label_search.specs.Search.{IsFurther, IsMoveExplored, step_at}
use Rattle.label_search.specs.Queues.{Pending, Waits, AreDueFrom}

-- the work has still to look at a move at a tick
abbrev pub LooksAtMove : ℕ → ℤ → Work → Type 0
LooksAtMove number tick Leave = Unit {0}
LooksAtMove number tick (Wait from) = ⊥
LooksAtMove number tick (Move one from) = (one ≡ number) × (from ≤ℤ tick)

-- the work has still to look at a wait from one tick to another; going on at once is left
-- to the first work of a label
abbrev pub LooksAtWait : ℤ → ℤ → Work → Type 0
LooksAtWait tick enter Leave = Unit {0}
LooksAtWait tick enter (Wait from) = (from ≤ℤ tick) × (tick <ℤ enter)
LooksAtWait tick enter (Move one from) = ⊥

-- such work of a label is due by a tick, or the tick is not below the limit
abbrev pub IsDueBy : Pending → ℤ → ℕ → (Work → Type 0) → ℤ → Type 0
IsDueBy queue below label Looks tick = (below ≤ℤ tick) ⊎ ((due : Due) × Waits queue due
    × (due.task.label ≡ label) × Looks due.task.work × (due.tick ≤ℤ tick))

-- what a move leads to from a tick of a place, to which a label came, is in the search,
-- or is due before it can arrive
abbrev pub IsMoveInHand : Plan → Trip → Book → Search → Pending → ℕ → ℕ → ℤ → ℕ → Type 0
IsMoveInHand plan trip book search queue label place tick number =
    IsMoveExplored plan trip book place tick number search
    ⊎ IsDueBy queue search.limits.below label (LooksAtMove number tick) ((leave_of plan place
    (step_at number tick)) +ℤ ahead_of search.limits.ahead (move_at plan place number).target)

-- a wait from that tick is in the search, or is due before the train can arrive
abbrev pub IsWaitInHand : Plan → Search → Pending → ℕ → ℕ → ℤ → ℤ → Type 0
IsWaitInHand plan search queue label place tick enter =
    IsReached search.labels.labels place true enter
    ⊎ IsDueBy queue search.limits.below label (LooksAtWait tick enter) (tick +ℤ (ahead_at
    search.limits.ahead place).ticks)

abbrev pub AreWaitsInHand : Plan → Book → Search → Pending → ℕ → ℕ → ℤ → Type 0
AreWaitsInHand plan book search queue label place tick = (enter : ℤ)
    → (tick +ℤ (place_at plan place).dwell) ≤ℤ enter → enter ≤ℤ plan.horizon
    → WaitFits book (place_at plan place) tick enter
    → IsWaitInHand plan search queue label place tick enter

-- the same of waits that take time
abbrev pub AreLongWaitsInHand : Plan → Book → Search → Pending → ℕ → ℕ → ℤ → Type 0
AreLongWaitsInHand plan book search queue label place tick = (enter : ℤ)
    → (tick +ℤ (place_at plan place).dwell) ≤ℤ enter → enter ≤ℤ plan.horizon → tick <ℤ enter
    → WaitFits book (place_at plan place) tick enter
    → IsWaitInHand plan search queue label place tick enter

-- all that a train can do at a tick of a place, to which a label came, is in the
-- search, or due before it can arrive
pub record IsInHand (plan : Plan) (trip : Trip) (book : Book) (search : Search) (queue : Pending)
    (label : ℕ) (place : ℕ) (ready : Bool) (tick : ℤ) : Type 0 where
  pub waits : IsTrue (place_at plan place).standing → ready ≡ false
      → AreWaitsInHand plan book search queue label place tick
  pub moves : (IsTrue (place_at plan place).standing → ready ≡ true) → (number : ℕ)
      → number < length (place_at plan place).moves
      → IsMoveInHand plan trip book search queue label place tick number

-- so it is at each tick of each label
abbrev pub AreInHand : Plan → Trip → Book → Search → Pending → Type 0
AreInHand plan trip book search queue = (label : ℕ) → label < length search.labels.labels
    → (tick : ℤ) → Holds (label_at search.labels.labels label).ticks tick
    → IsInHand plan trip book search queue label (label_at search.labels.labels label).place
    (label_at search.labels.labels label).ready tick

-- the wait that a train has behind it which is ready at a place
abbrev pub waited : Place → Bool → ℤ
waited place ready = if ready then least_wait place else pos 0

-- the least tick at which what a label leads to can arrive: a train that is
-- ready has its wait behind it
abbrev pub least_arrival : Plan → List Ahead → ℕ → Bool → ℤ → ℤ
least_arrival plan ahead place ready from = from +ℤ int_max ((ahead_at ahead place).ticks
    -ℤ waited (place_at plan place) ready) (pos 0)

abbrev pub label_arrival : Plan → List Ahead → Label → ℤ
label_arrival plan ahead label = least_arrival plan ahead label.place label.ready label.ticks.from

-- all work of a label is due by then
abbrev pub IsToBeLeft : Plan → Search → Pending → ℕ → Type 0
IsToBeLeft plan search queue label = IsDueBy queue search.limits.below label
    (λ work. work ≡ Leave) (label_arrival plan search.limits.ahead (label_at
    search.labels.labels label))

-- the labels from a number on are to be left
abbrev pub AreToBeLeft : Plan → Search → Pending → ℕ → Type 0
AreToBeLeft plan search queue from = (label : ℕ) → from ≤ label
    → label < length search.labels.labels → IsToBeLeft plan search queue label

-- more labels, each of which is to be left, and no work is lost
pub record IsAdvanced (plan : Plan) (old new : Search) (before after : Pending) : Type 0 where
  pub further : IsFurther old new
  pub kept : (due : Due) → Waits before due → Waits after due
  pub fresh : AreToBeLeft plan new after (length old.labels.labels)

-- what work of a label looks at is in the search, or waits and is due before it can arrive
pub record IsDone (plan : Plan) (trip : Trip) (book : Book) (search : Search) (queue : Pending)
    (label : ℕ) (front : Front) (work : Work) : Type 0 where
  pub waits : (tick enter : ℤ) → Holds front.ticks tick → LooksAtWait tick enter work
      → IsTrue (place_at plan front.place).standing → front.ready ≡ false
      → (tick +ℤ (place_at plan front.place).dwell) ≤ℤ enter → enter ≤ℤ plan.horizon
      → WaitFits book (place_at plan front.place) tick enter
      → IsWaitInHand plan search queue label front.place tick enter
  pub moves : (tick : ℤ) → Holds front.ticks tick → (number : ℕ) → LooksAtMove number tick work
      → (IsTrue (place_at plan front.place).standing → front.ready ≡ true)
      → number < length (place_at plan front.place).moves
      → IsMoveInHand plan trip book search queue label front.place tick number

-- the tick of the best end, or the limit
abbrev pub stop_at : ℤ → Option Ending → ℤ
stop_at below None = below
stop_at below (Some ending) = ending.arrive.from

-- all is in the search, or waits and is not due before the best end
pub record IsSettled (plan : Plan) (trip : Trip) (book : Book) (search : Search) : Type 0 where
  pub queue : Pending
  pub in_hand : AreInHand plan trip book search queue
  pub due : AreDueFrom queue (stop_at search.limits.below search.best)
