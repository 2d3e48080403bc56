-- Many events, one after another.
use Rattle.std.specs.Prelude.{◌≡◌, ◌⊎◌, ℕ, ◌+◌, ◌<◌, ◌≤◌, Bool, true, false, List, [], ◌∷◌, ◌++◌}
use Rattle.std.specs.Prelude.{length, Some, slice_get}
use Rattle.rail_types.specs.declared.entries.Entry.{Entry}
use Rattle.plan_core.specs.declared.events.Event.{Event}
use Rattle.plan_core.specs.declared.events.Event.TheVariants.{Crash}
use Rattle.plan_core.specs.declared.notes.Note.{Note}
use Rattle.plan_core.specs.Parties.{Party}
use Rattle.plan_core.specs.Events.{after, IsEnabled}
use Rattle.plan_core.specs.Worlds.{Plan}

-- an event does what it does where it may come, and else nothing
abbrev pub Takes : Plan → Event → Plan → Type 0
Takes old event new =
    (IsEnabled old event × (new ≡ after old event)) ⊎ ((¬ IsEnabled old event) × (new ≡ old))

-- these events take the one world to the other
abbrev pub Runs : Plan → List Event → Plan → Type 0
Runs old [] new = new ≡ old
Runs old (event ∷ events) new = (mid : Plan) × Takes old event mid × Runs mid events new

-- a lost note stands at this place
abbrev pub IsLostAt : List Note → ℕ → Type 0
IsLostAt log k = (note : Note) × (slice_get log k ≡ Some note) × (note.lost ≡ true)

-- the event is a crash that loses the last entry, which is not settled
pub record LosesLast (world : Plan) (event : Event) : Type 0 where
  pub is : event ≡ Crash false
  pub up : world.up ≡ true
  pub unsettled : world.settled < length world.entries

abbrev pub IsCrash : Event → Type 0
IsCrash event = (keeps_last : Bool) × (event ≡ Crash keeps_last)

-- the history before is the one behind and one entry more, which was not settled
pub record HasLostLast (old new : Plan) : Type 0 where
  pub unsettled : old.settled < length old.entries
  pub last : Entry
  pub entries : old.entries ≡ new.entries ++ last ∷ []

-- a note that is lost behind an event was lost before it, or the event lost the last
-- entry, and the note names it
abbrev pub MarksOnlyTheLost : Plan → Event → Plan → Type 0
MarksOnlyTheLost old event new =
    (client k : ℕ) (before behind : Party) (note : Note)
    → slice_get old.clients client ≡ Some before → slice_get new.clients client ≡ Some behind
    → slice_get behind.log k ≡ Some note → note.lost ≡ true
    → IsLostAt before.log k ⊎ (LosesLast old event × (note.entry ≡ Some (length new.entries)))

-- the front that a client knows goes back only where the last entry is lost, and then by one
abbrev pub BacksOnlyByLoss : Plan → Event → Plan → Type 0
BacksOnlyByLoss old event new =
    (client : ℕ) (before behind : Party)
    → slice_get old.clients client ≡ Some before → slice_get new.clients client ≡ Some behind
    → (before.front ≤ behind.front)
    ⊎ (LosesLast old event × (before.front ≤ behind.front + 1))
