-- A journal that is opened, and what is left of its disk.
use Rattle.std.specs.Prelude.{◌≡◌, ℕ, ◌+◌, ◌≤◌, List, length, IfSome, Option, None, Some, codes}
use Rattle.command_reports.specs.Refusals.{IsTold, line_with}
use Rattle.command_reports.specs.declared.refusals.Refusal.{Refusal}
use Rattle.command_reports.specs.declared.refusals.Refusal.TheVariants.{Memory}
use Rattle.command_reports.specs.declared.exit_status.Status.TheVariants.{DiskFault, Journal}
use Rattle.path_recover.specs.Failing.{HasFaultCause, IsOnlyRead, IsUnread}
use Rattle.path_recover.specs.Files.{IsRefused, TellsHistory}
use Rattle.path_recover.specs.declared.journal_reading.faults.OpenFault.{OpenFault}
use Rattle.path_recover.specs.declared.journal_reading.faults.OpenFault.TheVariants.{ReadFault}
use Rattle.path_recover.specs.journal.Headers.{header_of}
use Rattle.path_recover.specs.journal.Histories.{bodies_of, ReadsAsPrefix}
use Rattle.outside_io.specs.declared.disks.Disk.{Ghosts as Disks}
use Rattle.line_answers.specs.book.Ledgers.{IsKept, IsPrefixOf, Ledger, settled_of}
use Rattle.path_recover.specs.Opening.{IsJustMade, IsSynced}
use Rattle.path_recover.specs.Texts.{fault_text}
use Rattle.rail_types.specs.declared.entries.Entry.{Entry}
use Rattle.served_clients.specs.Files.{timetable_on}
use Rattle.served_clients.specs.declared.served_journals.files.Files.{Files}

-- the journal of the files was opened on a disk, which was synced and read
pub record IsFound {D : Type 0} (disk : Disks D) (files : Files) (before : D)
    (book : Ledger D) : Type 0 where
  pub made : IsJustMade disk (timetable_on files) files.network.digest files.base.digest book
  pub tells : IfSome (disk.contents before) (λ file. TellsHistory (timetable_on files) 2
      files.network.digest files.base.digest file book.entries)
  pub synced : IsSynced disk before book.disk
  pub read : IsOnlyRead disk before book.disk
  pub tick : disk.clock book.disk ≤ disk.clock before + 1
  pub quiet : disk.faults book.disk ≡ disk.faults before

-- the disk has no journal of the files, by this fault, and was only synced and read
pub record IsNoJournal {D : Type 0} (disk : Disks D) (files : Files) (fault : OpenFault)
    (before after : D) : Type 0 where
  pub refused : IfSome (disk.contents before) (λ file. IsRefused (timetable_on files) 2
      files.network.digest files.base.digest file fault)
  pub whole : IfSome (disk.contents before) (λ file. (entries : List Entry)
      → TellsHistory (timetable_on files) 2 files.network.digest files.base.digest file entries
      → IsUnread fault)
  pub read : IsOnlyRead disk before after
  pub tick : disk.clock after ≤ disk.clock before + 1
  pub cause : HasFaultCause (disk.faults before) (disk.faults after) fault

-- what is reported of a journal that is refused: a fault of the disk, or the text of the fault
abbrev pub TellsText : Option (List ℕ) → Refusal → Type 0
TellsText (Some text) refusal = IsTold Journal (line_with (codes "journal: ") text) refusal
TellsText None refusal = refusal ≡ Memory

abbrev pub TellsOpen : List ℕ → OpenFault → Refusal → Type 0
TellsOpen name ReadFault refusal = IsTold DiskFault (line_with (codes "disk: ") name) refusal
TellsOpen name fault refusal = TellsText (fault_text fault) refusal

-- no book was made of the journal under this name
pub record HasNoBook {D : Type 0} (disk : Disks D) (files : Files) (name : List ℕ)
    (before after : D) (refusal : Refusal) : Type 0 where
  pub fault : OpenFault
  pub left : IsNoJournal disk files fault before after
  pub told : TellsOpen name fault refusal

-- the journal was opened, and only read
pub record IsFoundOnly {D : Type 0} (disk : Disks D) (files : Files) (before after : D)
    : Type 0 where
  pub found : Ledger D
  pub opened : IsFound disk files before found
  pub disk_is : after ≡ found.disk

-- A book's disk was handed back: it is the one that keeps the book. What a crash left at any
-- moment from one on that is not before the book's making, and what the disk holds, reads as a
-- beginning of the book's history.
pub record IsClosed {D : Type 0} (disk : Disks D) (book : Ledger D) (after : D) : Type 0 where
  pub disk_is : after ≡ book.disk
  pub kept : IsKept disk book
  pub since : (moment : ℕ) (image : List ℕ) → book.made ≤ moment
      → disk.since after moment image → IsPrefixOf book book.found image
  pub contents : IfSome (disk.contents after) (IsPrefixOf book (settled_of book))

-- What a crash leaves of the disk at the end: at any moment since the journal was opened, which
-- took one sync, a beginning of the history left that has the entries found; and now a beginning
-- that has all that are settled. So do the contents.
pub record Remains {D : Type 0} (disk : Disks D) (files : Files) (before after : D)
    (found left : Ledger D) : Type 0 where
  pub since : (image : List ℕ) → disk.since after (disk.clock before + 1) image
      → ReadsAsPrefix (header_of files.network.digest files.base.digest) (bodies_of left.entries)
      (length found.entries) image
  pub now : (image : List ℕ) → disk.images after image
      → ReadsAsPrefix (header_of files.network.digest files.base.digest) (bodies_of left.entries)
      (settled_of left) image
  pub contents : IfSome (disk.contents after) (λ file.
      ReadsAsPrefix (header_of files.network.digest files.base.digest) (bodies_of left.entries)
      (settled_of left) file)
