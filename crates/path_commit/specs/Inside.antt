-- Inside: how the parts of a book belong together, and what its private calls leave.
use Rattle.std.specs.Prelude.{◌≡◌, ℕ, ◌+◌, ◌<◌, ◌≤◌, ◌^◌, List, length, All}
use Rattle.rail_types.specs.declared.entries.Entry.{Entry}
use Rattle.rail_types.specs.Timetables.{Timetable}
use Rattle.occupation_book.specs.Zones.{Zone}
use Rattle.occupation_book.specs.Held.{held}
use Rattle.outside_io.specs.declared.disks.Disk.{Ghosts}
use Rattle.grant_log.specs.Following.{AreLive}
use Rattle.grant_journal.specs.declared.journals.Written.{Written}
use Rattle.grant_journal.specs.declared.journals.Written.TheVariants.{Done, Fault}
use Rattle.grant_journal.specs.declared.journals.Stage.TheVariants.{Record, Gate}
use Rattle.grant_log.specs.Legal.{Joins, Register}
use Rattle.entry_codec.specs.Within.{HasBody}
use Rattle.grant_journal.specs.Headers.{header_of}
use Rattle.grant_journal.specs.Histories.{bodies_of, record_of}
use Rattle.grant_journal.specs.Keeping.{Keeps}
use Rattle.grant_journal.specs.Timed.{Timed, settled_of}
use Rattle.grant_log.specs.Changes.{HasRoomToChange, IsChangeOf}
use Rattle.path_commit.specs.Answers.{bytes_with}
use Rattle.path_commit.specs.declared.answers.Committed.{Committed}
use Rattle.path_commit.specs.declared.answers.Committed.TheVariants.{Done as told_done}
use Rattle.path_commit.specs.declared.answers.Committed.TheVariants.{Unsettled as told_unsettled}
use Rattle.path_commit.specs.declared.parts.Ready.{Ready}
use Rattle.path_commit.specs.Ledgers.{Ledger}

-- the claims held are the live ones, the journal keeps the history, and each
-- entry has room for its moment
pub record AreOne {D : Type 0} (disk : Ghosts D) (network base : List ℕ) (history : Register)
    (claims : List Zone) (journal : Timed D) : Type 0 where
  pub digests : (length network ≡ 32) × (length base ≡ 32)
  pub live : AreLive history.timetable (held claims) history.entries
  pub zones : length claims ≡ history.timetable.net.zones
  pub spelled : All HasBody history.entries
  pub kept : Keeps disk journal (header_of network base) (bodies_of history.entries)
  pub room : length history.entries ≤ settled_of journal + journal.spare

-- the book of these parts, as its callers see it
abbrev pub ledger_of : {D : Type 0} → List ℕ → List ℕ → Register → Timed D → Ledger D
ledger_of network base history journal = record {
  disk = journal.journal.disk;
  network_digest = network;
  base_digest = base;
  timetable = history.timetable;
  entries = history.entries;
  made = journal.made;
  found = journal.found;
  moments = journal.moments;
}

-- all that an entry needs is there: it is in range and fresh, the journal's limit leaves room for
-- its record, and there is memory for the history, the claims and the moment
pub record IsReady {D : Type 0} (history : Register) (claims : List Zone) (journal : Timed D)
    (entry : Entry) (ready : Ready) : Type 0 where
  pub joins : Joins history.timetable history.entries entry
  pub fits : bytes_with history.entries entry ≤ history.timetable.settings.journal_bytes
  pub few : history.timetable.settings.journal_bytes < 2 ^ 32
  pub bytes : ready.bytes ≡ record_of entry
  pub spelled : HasBody entry
  pub change : IsChangeOf history.timetable history.entries entry.deed ready.change
  pub claims_room : HasRoomToChange claims ready.change
  pub history_room : 1 ≤ history.spare
  pub moment_room : 1 ≤ journal.spare

-- the write of the entry's gate was called
abbrev pub IsBegun : Written → Type 0
IsBegun Done = Unit {0}
IsBegun (Fault Record) = ⊥
IsBegun (Fault Gate) = Unit {0}

-- what an entry at a position is told that was begun
abbrev pub IsToldBy : Written → ℕ → Committed → Type 0
IsToldBy Done at told = told ≡ told_done at
IsToldBy (Fault Record) at told = ⊥
IsToldBy (Fault Gate) at told = told ≡ told_unsettled at
