-- What holds of a world after any events.
use Rattle.std.specs.Prelude.{◌≡◌, ◌↔◌, ◌⊎◌, ℕ, ◌+◌, ◌<◌, ◌≤◌, if◌then◌else◌, List, length, Some}
use Rattle.std.specs.Prelude.{slice_get, All, AllPairs, IfSome}
use Rattle.rail_types.specs.declared.entries.Entry.{Entry}
use Rattle.rail_types.specs.Timetables.{IsTimetable}
use Rattle.grant_log.specs.Legal.{IsLegal}
use Rattle.plan_core.specs.declared.notes.Note.{Note}
use Rattle.plan_core.specs.Parties.{positions}
use Rattle.plan_core.specs.Worlds.{IsOf, Names, Plan}

-- an entry of this client stands at this position
abbrev pub IsEntryOf : Plan → ℕ → ℕ → Type 0
IsEntryOf world client at =
    (entry : Entry) × (slice_get world.entries at ≡ Some entry) × IsOf world client entry

-- The history is legal; all its entries are settled, or all but the last; no client knows more than
-- the history, nor searched more than it knows; the notes of a client that are not lost name the
-- positions of its entries, ascending, each once; and each entry is some client's.
pub record IsSound (world : Plan) : Type 0 where
  pub timetable : IsTimetable world.timetable
  pub legal : IsLegal world.timetable world.entries
  pub settled : (world.settled ≡ length world.entries) ⊎ (world.settled + 1 ≡ length world.entries)
  pub fronts : All (λ party. party.front ≤ length world.entries) world.clients
  pub searched : All (λ party. IfSome party.searched (λ front. front ≤ party.front)) world.clients
  pub notes : (client at : ℕ) → client < length world.clients →
      Names world client at ↔ IsEntryOf world client at
  pub ascending : All (λ party. AllPairs (λ one later. one < later) (positions party.log))
      world.clients
  pub owned : (at : ℕ) → at < length world.entries → (client : ℕ) × Names world client at

-- how far the points behind a note may go back: by one where its entry was lost
abbrev pub back_by : Note → ℕ
back_by note = if note.lost then 1 else 0

-- the points of notes never go back, but by one behind a note whose entry was lost
abbrev pub GoBackByLoss : List Note → Type 0
GoBackByLoss log = AllPairs (λ note later. note.point ≤ later.point + back_by note) log
