-- The history of a journal: its disk is opened, read and put back.
use Rattle.std.specs.Prelude.{◌≡◌, ◌⊎◌, ℕ, List, IfSome, Option, None, Some, Result, Ok, Err, codes}
use Rattle.outside_io.specs.Faults.{Rose}
use Rattle.outside_io.specs.Openings.{disk_at}
use Rattle.outside_io.specs.Places.{Replaces, Untouched}
use Rattle.outside_io.specs.declared.disks.Disk.{Ghosts}
use Rattle.command_reports.specs.declared.exit_status.Status.TheVariants.{DiskFault, Journal}
use Rattle.command_reports.specs.Scenes.{IsReady, Opens, Scene}
use Rattle.rail_types.specs.declared.entries.Entry.{Entry}
use Rattle.grant_log.specs.Legal.{Register}
use Rattle.path_recover.specs.declared.journal_reading.faults.OpenFault.{OpenFault}
use Rattle.path_recover.specs.declared.journal_reading.faults.OpenFault.TheVariants.{ReadFault}
use Rattle.path_recover.specs.Failing.{HasFaultCause, IsOnlyRead, IsUnread}
use Rattle.path_recover.specs.Files.{IsRefused, TellsHistory}
use Rattle.path_recover.specs.Texts.{fault_text}
use Rattle.command_files.specs.declared.bases.BaseFile.{BaseFile}
use Rattle.command_files.specs.declared.networks.NetworkFile.{NetworkFile}
use Rattle.command_reports.specs.Refusals.{IsTold, line_with}
use Rattle.command_reports.specs.declared.refusals.Refusal.{Refusal}
use Rattle.command_reports.specs.declared.refusals.Refusal.TheVariants.{Memory}
use Rattle.command_reports.specs.Disks.{ChangesOnlyDisk, IsNotOpened}
use Rattle.command_files.specs.Timetables.{timetable_on}
use Rattle.print_commands.specs.declared.journals.NotRead.{NotRead}
use Rattle.print_commands.specs.declared.journals.NotRead.TheVariants.{NotOpened, Refused}

-- the bytes are a journal of these files, in the version of today, with these entries
abbrev pub TellsEntries : NetworkFile → BaseFile → List Entry → List ℕ → Type 0
TellsEntries network base entries file =
    TellsHistory (timetable_on network base) 2 network.digest base.digest file entries

-- the disk has a journal of these files with these entries, and was only read;
-- a crash leaves what was read
pub record IsHistoryOn {D : Type 0} (disk : Ghosts D) (network : NetworkFile) (base : BaseFile)
    (entries : List Entry) (before after : D) : Type 0 where
  pub tells : IfSome (disk.contents before) (TellsEntries network base entries)
  pub synced : (image : List ℕ) → disk.images after image → disk.contents before ≡ Some image
  pub read : IsOnlyRead disk before after
  pub quiet : disk.faults after ≡ disk.faults before

-- the disk is refused by its bytes, or failed, or memory was wanted; it was only read, and one that
-- has a journal of these files is refused by no byte
pub record IsRefusedOn {D : Type 0} (disk : Ghosts D) (network : NetworkFile) (base : BaseFile)
    (fault : OpenFault) (before after : D) : Type 0 where
  pub refused : IfSome (disk.contents before) (λ file.
      IsRefused (timetable_on network base) 2 network.digest base.digest file fault)
  pub whole : IfSome (disk.contents before) (λ file.
      (entries : List Entry) → TellsEntries network base entries file → IsUnread fault)
  pub read : IsOnlyRead disk before after
  pub cause : HasFaultCause (disk.faults before) (disk.faults after) fault

-- what is reported of a journal that is refused: its text, and of a fault
-- without one that memory was wanted
abbrev pub TellsText : Option (List ℕ) → Refusal → Type 0
TellsText (Some text) refusal = IsTold Journal (line_with (codes "journal: ") text) refusal
TellsText None refusal = refusal ≡ Memory

-- what is reported of a disk that is refused: that it failed, or what is wrong with its journal
abbrev pub TellsOpen : List ℕ → OpenFault → Refusal → Type 0
TellsOpen name ReadFault refusal = IsTold DiskFault (line_with (codes "disk: ") name) refusal
TellsOpen name fault refusal = TellsText (fault_text fault) refusal

-- the disk was opened, and its journal read to this history
pub record ReadsJournal {Src Snk Dsk : Type 0} (disk : Ghosts Dsk) (network : NetworkFile)
    (base : BaseFile) (name : List ℕ) (old new : Scene Src Snk Dsk)
    (history : Register) : Type 0 where
  pub timetable : history.timetable ≡ timetable_on network base
  pub opens : Opens (disk_at name) old new
  pub read : Replaces (IsHistoryOn disk network base history.entries)
      (old.disks name) (new.disks name)

-- the disk was opened, and refused
pub record IsJournalRefused {Src Snk Dsk : Type 0} (disk : Ghosts Dsk) (network : NetworkFile)
    (base : BaseFile) (name : List ℕ) (old new : Scene Src Snk Dsk)
    (refusal : Refusal) : Type 0 where
  pub fault : OpenFault
  pub opens : Opens (disk_at name) old new
  pub left : Replaces (IsRefusedOn disk network base fault) (old.disks name) (new.disks name)
  pub told : TellsOpen name fault refusal

-- the history that was read, or why none was
abbrev pub JournalSays : {Src Snk Dsk : Type 0} → Ghosts Dsk → NetworkFile → BaseFile → List ℕ
    → Scene Src Snk Dsk → Scene Src Snk Dsk → Result Register Refusal → Type 0
JournalSays disk network base name old new (Ok history) =
    ReadsJournal disk network base name old new history
JournalSays disk network base name old new (Err refusal) =
    IsNotOpened name old new refusal ⊎ IsJournalRefused disk network base name old new refusal

-- The step that reads the history of a journal by these files: its disk is opened
-- once, and nothing else changes.
pub record JournalStep {Src Snk Dsk : Type 0} (disk : Ghosts Dsk) (network : NetworkFile)
    (base : BaseFile) (name : List ℕ) (old new : Scene Src Snk Dsk)
    (result : Result Register Refusal) : Type 0 where
  pub says : JournalSays disk network base name old new result
  pub only : ChangesOnlyDisk name old new

-- *inside*: what is done with the disk, before anything is told
abbrev pub DiskSays : {Src Snk Dsk : Type 0} → Ghosts Dsk → NetworkFile → BaseFile → List ℕ
    → Scene Src Snk Dsk → Scene Src Snk Dsk → Result Register NotRead → Type 0
DiskSays disk network base name old new (Ok history) =
    ReadsJournal disk network base name old new history
DiskSays disk network base name old new (Err NotOpened) =
    (IsReady (old.standing (disk_at name)) → ⊥) × Untouched old.disks new.disks
    × Rose old.faults new.faults
DiskSays disk network base name old new (Err (Refused fault)) =
    Opens (disk_at name) old new
    × Replaces (IsRefusedOn disk network base fault) (old.disks name) (new.disks name)
