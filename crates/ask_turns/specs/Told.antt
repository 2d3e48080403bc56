-- What is told of entries.
use Rattle.std.specs.Prelude.{◌≡◌, ◌≢◌, ℕ, ◌+◌, ◌<◌, ◌≤◌, List, Option, Some, None, length}
use Rattle.std.specs.Prelude.{slice_get}
use Rattle.outside_io.specs.Faults.{Rose}
use Rattle.rail_types.specs.declared.entries.Deed.{Deed}
use Rattle.rail_types.specs.declared.entries.Entry.{Entry}
use Rattle.rail_types.specs.Timetables.{Timetable}
use Rattle.path_commit.specs.history.declared.verdicts.Verdict.{Verdict}
use Rattle.path_commit.specs.history.declared.verdicts.Verdict.TheVariants as verdict
use Rattle.path_commit.specs.history.Legal.{Joins}
use Rattle.path_commit.specs.history.Live.{claims_of, freed_by, live_claims}
use Rattle.path_commit.specs.history.Verdict.{place_of, repeat_at, verdict_on}
use Rattle.path_commit.specs.Answers.{IsTaken, bytes_with, with_entry}
use Rattle.path_commit.specs.Clashes.{IsLastClash, NoneClashesFrom}
use Rattle.path_commit.specs.Ledgers.{Ledger, settled_of}
use Rattle.ask_turns.specs.declared.client_turns.halts.Halt.{Halt}
use Rattle.ask_turns.specs.declared.client_turns.halts.Halt.TheVariants as halt
use Rattle.ask_turns.specs.declared.client_turns.told.Entered.{Entered}
use Rattle.ask_turns.specs.declared.client_turns.told.Entered.TheVariants.{Settled, Unsettled}
use Rattle.ask_turns.specs.declared.client_turns.told.Entered.TheVariants.{Refused, Full}
use Rattle.ask_turns.specs.declared.client_turns.told.Refusal.{Refusal}
use Rattle.ask_turns.specs.declared.client_turns.told.Refusal.TheVariants.{Kept, Other}
use Rattle.ask_turns.specs.declared.client_turns.told.Standing.{Standing}
use Rattle.ask_turns.specs.declared.client_turns.told.Tried.{Tried}
use Rattle.ask_turns.specs.declared.client_turns.told.Tried.TheVariants.{Entered as EntryTried}
use Rattle.ask_turns.specs.declared.client_turns.told.Tried.TheVariants.{Missed}

-- the entry at a position with the later one that frees it, or that none stands there
abbrev pub IsStanding : List Entry → ℕ → Option Standing → Type 0
IsStanding entries at None = slice_get entries at ≡ None
IsStanding entries at (Some standing) =
    (slice_get entries at ≡ Some standing.entry) × (standing.freed_by ≡ freed_by entries at)

-- not the verdict that an entry is kept
abbrev pub IsNotKept : Verdict → Type 0
IsNotKept (verdict.Kept at) = ⊥
IsNotKept other = Unit {0}

-- the refusal is that of the verdict, and tells the deed that stands where the entry is kept
abbrev pub IsRefusal : List Entry → Verdict → Refusal → Type 0
IsRefusal entries told (Kept at deed) =
    (told ≡ verdict.Kept at)
    × ((entry : Entry) × (slice_get entries at ≡ Some entry) × (entry.deed ≡ deed))
IsRefusal entries told (Other verdict) = (told ≡ verdict) × IsNotKept verdict

-- what is told of an owner's number that stands in these entries, by the deed that is sent
-- with it; None where it is new
abbrev pub IsFoundAgain : List Entry → List ℕ → ℕ → Deed → Option Refusal → Type 0
IsFoundAgain entries owner number deed None = place_of entries owner number ≡ None
IsFoundAgain entries owner number deed (Some told) =
    (at : ℕ) × (place_of entries owner number ≡ Some at)
    × IsRefusal entries (repeat_at entries deed at) told

-- the entry joins these entries, and its record has room in the journal
pub record MayEnter (timetable : Timetable) (entry : Entry) (entries : List Entry) : Type 0 where
  pub joins : Joins timetable entries entry
  pub room : bytes_with entries entry ≤ timetable.settings.journal_bytes

-- where a claim of the entry is taken, no entry from this position on has one that clashes
abbrev pub IsTakenBefore : Timetable → List Entry → Entry → ℕ → Type 0
IsTakenBefore timetable entries entry searched =
    IsTaken (verdict_on timetable entries entry)
    → NoneClashesFrom (live_claims timetable entries) (claims_of timetable entry.deed) searched

-- a claim of the entry is taken, and the last entry from the searched position on that has
-- one which clashes stands here
pub record IsTakenSince (timetable : Timetable) (entries : List Entry) (entry : Entry)
    (searched at : ℕ) : Type 0 where
  pub taken : IsTaken (verdict_on timetable entries entry)
  pub clash : IsLastClash (live_claims timetable entries) (claims_of timetable entry.deed)
      searched at

-- ---- inside

-- where the verdict is that an entry is kept, one stands at its position
abbrev pub Stands : List Entry → Verdict → Type 0
Stands entries (verdict.Kept at) = (entry : Entry) × (slice_get entries at ≡ Some entry)
Stands entries other = Unit {0}

-- an entry that may enter stands behind those of a book, which counts so many as settled
pub record Gained {D : Type 0} (entry : Entry) (old new : Ledger D)
    (at front count : ℕ) : Type 0 where
  pub may : MayEnter old.timetable entry old.entries
  pub here : at ≡ length old.entries
  pub behind : front ≡ at + 1
  pub entries : new.entries ≡ with_entry old.entries entry
  pub settled : settled_of new ≡ count

-- what became of an entry in a book
abbrev pub EntersIn : {D : Type 0} → (D → ℕ) → Entry → Ledger D → Ledger D → Entered → Type 0
EntersIn faults entry old new (Settled at front) =
    Gained entry old new at front (length new.entries) × (faults new.disk ≡ faults old.disk)
EntersIn faults entry old new (Unsettled at front) =
    Gained entry old new at front (length old.entries) × Rose (faults old.disk) (faults new.disk)
EntersIn faults entry old new (Refused told) =
    (new ≡ old) × (verdict_on old.timetable old.entries entry ≢ verdict.Fresh)
    × IsRefusal old.entries (verdict_on old.timetable old.entries entry) told
EntersIn faults entry old new Full =
    (new ≡ old) × Joins old.timetable old.entries entry
    × (old.timetable.settings.journal_bytes < bytes_with old.entries entry)

-- an entry that may enter could not be begun, or memory was wanted; the entries stay
abbrev pub StopsIn : {D : Type 0} → (D → ℕ) → Entry → Ledger D → Ledger D → Halt → Type 0
StopsIn faults entry old new halt.DiskFault =
    MayEnter old.timetable entry old.entries × (new.entries ≡ old.entries)
    × (settled_of new ≡ length new.entries) × Rose (faults old.disk) (faults new.disk)
StopsIn faults entry old new halt.NoMemory = new ≡ old
StopsIn faults entry old new (halt.Ahead after front) = ⊥

-- what became in a book of an entry whose path was searched for at a front
abbrev pub TriesIn : {D : Type 0} → (D → ℕ) → Entry → ℕ → Ledger D → Ledger D → Tried → Type 0
TriesIn faults entry searched old new (EntryTried (Refused told)) =
    EntersIn faults entry old new (Refused told)
    × IsTakenBefore old.timetable old.entries entry searched
TriesIn faults entry searched old new (EntryTried entered) = EntersIn faults entry old new entered
TriesIn faults entry searched old new (Missed at) =
    (new ≡ old) × IsTakenSince old.timetable old.entries entry searched at
