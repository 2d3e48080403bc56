-- Inside: how a world is kept, and what goes on from event to event beside its soundness.
use Rattle.std.specs.Prelude.{◌≡◌, ◌⊎◌, ◌↔◌, ℕ, ◌+◌, ◌<◌, ◌≤◌, Bool, false, IsTrue, List, length}
use Rattle.std.specs.Prelude.{map, take, Option, Some, None, nat_eq, if◌then◌else◌, slice_get, All}
use Rattle.std.specs.Prelude.{AllPairs}
use Rattle.occupation_book.specs.Zones.{Zone}
use Rattle.occupation_book.specs.Held.{held}
use Rattle.grant_log.specs.Following.{AreLive}
use Rattle.grant_log.specs.Legal.{Register}
use Rattle.rail_types.specs.declared.entries.Entry.{Entry}
use Rattle.plan_core.specs.declared.events.Event.{Event}
use Rattle.plan_core.specs.declared.notes.Note.{Note}
use Rattle.plan_core.specs.Sound.{back_by, GoBackByLoss, IsSound}
use Rattle.plan_core.specs.Events.{after, IsEnabled}
use Rattle.plan_core.specs.Parties.{Party, positions}
use Rattle.plan_core.specs.Worlds.{Plan}

-- a client, and for how many more notes there is room
pub record Desk : Type 0 where
  pub party : Party
  pub room : ℕ

abbrev pub party_of : Desk → Party
party_of desk = desk.party

-- the client of this number is there, and has room for a note
abbrev pub HasRoom : List Desk → ℕ → Type 0
HasRoom desks client = (desk : Desk) × (slice_get desks client ≡ Some desk) × (1 ≤ desk.room)

-- the world of these parts, as its callers see it
abbrev pub plan_of : Register → ℕ → Bool → List Desk → Plan
plan_of history settled up desks =
    record {
      timetable = history.timetable;
      entries = history.entries;
      settled = settled;
      up = up;
      clients = map party_of desks;
    }

-- the last note, of the entry that is not settled
pub record IsPending (settled count k : ℕ) (note : Note) : Type 0 where
  pub last : k + 1 ≡ count
  pub entry : note.entry ≡ Some settled
  pub found : note.lost ≡ false

-- Each note's point is a settled one, or one more where its entry was lost, unless it is the last
-- and names the entry that is not settled; the point of a note with an entry is the one behind it.
pub record IsInStep (settled : ℕ) (log : List Note) : Type 0 where
  pub each : (k : ℕ) (note : Note) → slice_get log k ≡ Some note →
      (note.point ≤ settled + back_by note) ⊎ IsPending settled (length log) k note
  pub behind : All (λ note. (at : ℕ) → note.entry ≡ Some at → note.point ≡ at + 1) log
  pub points : GoBackByLoss log

-- a world is sound, and its notes are in step with the settled entries
pub record IsKept (world : Plan) : Type 0 where
  pub sound : IsSound world
  pub logs : All (λ party. IsInStep world.settled party.log) world.clients

-- the world is sound, and the claims held are those that are live among the settled entries
pub record AreOne (history : Register) (claims : List Zone) (settled : ℕ) (up : Bool)
    (desks : List Desk) : Type 0 where
  pub kept : IsKept (plan_of history settled up desks)
  pub live : AreLive history.timetable (held claims) (take settled history.entries)
  pub zones : length claims ≡ history.timetable.net.zones

-- of the notes that are not lost, only the last may name this position
abbrev pub IsOnlyLast : ℕ → List Note → Type 0
IsOnlyLast at log =
    (k : ℕ) (note : Note) → slice_get log k ≡ Some note → note.lost ≡ false
    → note.entry ≡ Some at → k + 1 ≡ length log

-- and none names a later one
pub record IsAtLast (at : ℕ) (log : List Note) : Type 0 where
  pub last : IsOnlyLast at log
  pub ascending : AllPairs (λ one later. one < later) (positions log)
  pub up_to : All (λ position. position ≤ at) (positions log)

-- a position, unless it is this one
abbrev pub first_but : ℕ → Option ℕ → Option ℕ
first_but at None = None
first_but at (Some position) = if nat_eq position at then None else Some position

-- an event with an answer whether it may come, and what it leaves
pub record Does (old : Plan) (event : Event) (may : Bool) (new : Plan) : Type 0 where
  pub enabled : IsTrue may ↔ IsEnabled old event
  pub effect : IsTrue may → new ≡ after old event
  pub idle : (¬ IsTrue may) → new ≡ old

-- the entry at a position bears this name
abbrev pub IsOwner : List Entry → ℕ → List ℕ → Type 0
IsOwner entries at owner =
    (entry : Entry) × (slice_get entries at ≡ Some entry) × (entry.owner ≡ owner)

-- the first entry that another client's notes name bears this name just
-- where it is the client itself
abbrev pub Agrees : Plan → ℕ → List ℕ → ℕ → Type 0
Agrees world client owner another =
    (party : Party) (at : ℕ) → slice_get world.clients another ≡ Some party
    → slice_get (positions party.log) 0 ≡ Some at
    → IsOwner world.entries at owner ↔ (another ≡ client)
