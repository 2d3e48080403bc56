-- The disk of a journal, opened under its name and put back.
use Rattle.std.specs.Prelude.{◌≡◌, ℕ, List, [], ◌∷◌, codes}
use Rattle.served_clients.specs.Lending.{IsAsBefore}
use Rattle.served_clients.specs.Refusing.{AreMade, IsOpen, WhyStopped}
use Rattle.command_reports.specs.Refusals.{IsTold, line_with}
use Rattle.command_reports.specs.declared.refusals.Refusal.{Refusal}
use Rattle.command_reports.specs.declared.exit_status.Status.TheVariants.{Opening as not_opened}
use Rattle.command_reports.specs.Scenes.{IsReady, Opens, Scene}
use Rattle.path_recover.specs.declared.journal_reading.faults.OpenFault.{OpenFault}
use Rattle.outside_io.specs.Faults.{Rose}
use Rattle.outside_io.specs.Openings.{disk_at, Opening}
use Rattle.outside_io.specs.Places.{Replaces, Untouched}
use Rattle.outside_io.specs.declared.disks.Disk.{Ghosts as Disks}
use Rattle.line_answers.specs.book.Ledgers.{Ledger}
use Rattle.served_clients.specs.ServedJournals.{HasNoBook, IsFound, IsFoundOnly, IsNoJournal}
use Rattle.served_clients.specs.ServedJournals.{TellsOpen}
use Rattle.served_clients.specs.declared.served_journals.files.Files.{Files}

-- the name of the journal could not be opened, and nothing behind it was
pub record IsNotOpened {Src Snk Dsk : Type 0} (name : List ℕ) (old new : Scene Src Snk Dsk)
    (refusal : Refusal) : Type 0 where
  pub unready : IsReady (old.standing (disk_at name)) → ⊥
  pub opened : AreMade old new (disk_at name ∷ [])
  pub same : Untouched old.disks new.disks
  pub rose : Rose old.faults new.faults
  pub told : IsTold not_opened (line_with (codes "open: ") name) refusal

-- the journal was opened and refused, and nothing behind it was opened
pub record IsJournalRefused {Src Snk Dsk : Type 0} (disk : Disks Dsk) (files : Files)
    (name : List ℕ) (old new : Scene Src Snk Dsk) (refusal : Refusal) : Type 0 where
  pub fault : OpenFault
  pub opens : Opens (disk_at name) old new
  pub opened : AreMade old new (disk_at name ∷ [])
  pub left : Replaces (IsNoJournal disk files fault) (old.disks name) (new.disks name)
  pub told : TellsOpen name fault refusal

-- the journal was opened, but nobody was served, since not all of these calls succeeded or memory
-- was wanted; the call that failed was the last that was made
pub record IsHalted {Src Snk Dsk : Type 0} (disk : Disks Dsk) (files : Files) (name : List ℕ)
    (calls : List Opening) (old new : Scene Src Snk Dsk) (refusal : Refusal)
    : Type 0 where
  pub name_open : IsOpen old.standing (disk_at name)
  pub left : Replaces (IsFoundOnly disk files) (old.disks name) (new.disks name)
  pub why : WhyStopped calls (λ made. AreMade old new (disk_at name ∷ made))
      old.standing old.faults new.faults refusal

-- Nobody was served, since not all of these calls succeeded or memory was
-- wanted; all is as it was before.
pub record IsUnserved {Src Snk Dsk : Type 0} (calls : List Opening) (found : Ledger Dsk)
    (after : Dsk) (old new : Scene Src Snk Dsk) (refusal : Refusal) : Type 0 where
  pub disk_is : after ≡ found.disk
  pub as_before : IsAsBefore old new
  pub why : WhyStopped calls (AreMade old new)
      old.standing old.faults new.faults refusal

-- *inside*: no book was made while the disk was out
pub record DiskRefuses {Src Snk Dsk : Type 0} (disk : Disks Dsk) (files : Files)
    (name : List ℕ) (before after : Dsk) (old new : Scene Src Snk Dsk) (refusal : Refusal)
    : Type 0 where
  pub none : HasNoBook disk files name before after refusal
  pub same : new ≡ old

-- *inside*: a book was made while the disk was out, but nobody was served
pub record DiskHalts {Src Snk Dsk : Type 0} (disk : Disks Dsk) (files : Files)
    (calls : List Opening) (before after : Dsk) (old new : Scene Src Snk Dsk)
    (refusal : Refusal) : Type 0 where
  pub found : Ledger Dsk
  pub opened : IsFound disk files before found
  pub unserved : IsUnserved calls found after old new refusal
