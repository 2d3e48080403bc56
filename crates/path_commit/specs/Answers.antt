-- What a commit tells, and what it leaves.
use Rattle.std.specs.Prelude.{◌≡◌, ◌≢◌, ◌⊎◌, ◌<◌, ◌≤◌, ◌+◌, ℕ, List, [], ◌∷◌, ◌++◌, length}
use Rattle.rail_types.specs.declared.entries.Deed.{Deed}
use Rattle.rail_types.specs.declared.entries.Deed.TheVariants.{Free}
use Rattle.rail_types.specs.declared.entries.Entry.{Entry}
use Rattle.rail_types.specs.Timetables.{Timetable}
use Rattle.outside_io.specs.Faults.{Rose}
use Rattle.outside_io.specs.declared.disks.Disk.{Ghosts}
use Rattle.grant_journal.specs.declared.journals.Settled.{Settled}
use Rattle.grant_journal.specs.declared.journals.Settled.TheVariants.{Done as Put, Fault as Failed}
use Rattle.grant_log.specs.declared.verdicts.Verdict.{Verdict}
use Rattle.grant_log.specs.declared.verdicts.Verdict.TheVariants.{Fresh, Taken}
use Rattle.grant_log.specs.Live.{claims_of, live_claims}
use Rattle.grant_log.specs.Verdict.{verdict_on}
use Rattle.entry_codec.specs.Body.{body_of}
use Rattle.grant_journal.specs.Headers.{header_of}
use Rattle.grant_journal.specs.Histories.{bodies_of, bytes_of, ReadsAsEither}
use Rattle.path_commit.specs.Clashes.{IsLastClash, NoneClashesFrom}
use Rattle.path_commit.specs.Ledgers.{Ledger, settled_of}
use Rattle.path_commit.specs.declared.answers.Committed.{Committed}
use Rattle.path_commit.specs.declared.answers.Committed.TheVariants.{Done, Refused, Clash, Full}
use Rattle.path_commit.specs.declared.answers.Committed.TheVariants.{DiskFault, Unsettled, Memory}

-- the verdict that a claim is taken
abbrev pub IsTaken : Verdict → Type 0
IsTaken (Taken claim owner) = Unit {0}
IsTaken other = ⊥

-- the bytes of the journal with the entry's record
abbrev pub bytes_with : List Entry → Entry → ℕ
bytes_with entries entry = bytes_of entries + (length (body_of entry) + 5)

-- What an entry is told, the first that applies: the verdict of the history, unless a claim is
-- taken; the last entry from the searched front on with a live claim that clashes; that a claim is
-- taken; that the record has no room.
abbrev pub IsTold : Timetable → List Entry → Entry → ℕ → Committed → Type 0
IsTold timetable entries entry searched (Refused verdict) =
    (verdict ≡ verdict_on timetable entries entry) × (verdict ≢ Fresh)
    × (IsTaken verdict → NoneClashesFrom (live_claims timetable entries)
    (claims_of timetable entry.deed) searched)
IsTold timetable entries entry searched (Clash at) =
    IsTaken (verdict_on timetable entries entry)
    × IsLastClash (live_claims timetable entries) (claims_of timetable entry.deed) searched at
IsTold timetable entries entry searched Full =
    (verdict_on timetable entries entry ≡ Fresh)
    × (timetable.settings.journal_bytes < bytes_with entries entry)
IsTold timetable entries entry searched Memory = Unit {0}
IsTold timetable entries entry searched other =
    (verdict_on timetable entries entry ≡ Fresh)
    × (bytes_with entries entry ≤ timetable.settings.journal_bytes)

-- an answer that leaves all as it was
abbrev pub IsRefusal : Committed → Type 0
IsRefusal (Refused verdict) = Unit {0}
IsRefusal (Clash at) = Unit {0}
IsRefusal Full = Unit {0}
IsRefusal Memory = Unit {0}
IsRefusal other = ⊥

-- the history with one entry more
abbrev pub with_entry : List Entry → Entry → List Entry
with_entry entries entry = entries ++ entry ∷ []

-- where the entry stands, if it was begun, and whether it is settled: then its moment is kept.
-- Every other answer leaves the history
abbrev pub Commits : {D : Type 0} → Ghosts D → Ledger D → Ledger D → Entry → Committed → Type 0
Commits disk old new entry (Done at) =
    (at ≡ length old.entries) × (new.entries ≡ with_entry old.entries entry)
    × (new.moments ≡ old.moments ++ disk.clock new.disk ∷ [])
Commits disk old new entry (Unsettled at) =
    (at ≡ length old.entries) × (new.entries ≡ with_entry old.entries entry)
    × (new.moments ≡ old.moments)
Commits disk old new entry DiskFault =
    (new.entries ≡ old.entries) × (new.moments ≡ old.moments)
Commits disk old new entry other = new ≡ old

-- the count rose where a fault is told, and stays at the other answers
abbrev pub HasCommitCause : ℕ → ℕ → Committed → Type 0
HasCommitCause before now DiskFault = Rose before now
HasCommitCause before now (Unsettled at) = Rose before now
HasCommitCause before now other = now ≡ before

-- once it is settled, the moment of a pending entry is kept; a fault keeps none
abbrev pub Settles : {D : Type 0} → Ghosts D → Ledger D → Ledger D → Settled → Type 0
Settles disk old new Put =
    (settled_of new ≡ length old.entries)
    × (((settled_of old ≡ length old.entries) × (new ≡ old))
    ⊎ ((settled_of old < length old.entries)
    × (new.moments ≡ old.moments ++ disk.clock new.disk ∷ [])))
Settles disk old new Failed =
    (settled_of old < length old.entries) × (new.moments ≡ old.moments)

-- the file reads as the history before or after
abbrev pub IsBeforeOrAfter : {D : Type 0} → Ledger D → Ledger D → List ℕ → Type 0
IsBeforeOrAfter old new file =
    ReadsAsEither (header_of old.network_digest old.base_digest)
    (bodies_of old.entries) (bodies_of new.entries) file

-- a deed that frees an entry
abbrev pub FreesSome : Deed → Type 0
FreesSome deed = (at : ℕ) × (deed ≡ Free at)
