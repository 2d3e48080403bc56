-- How a journal is begun on a disk.
use Rattle.std.specs.Prelude.{◌≡◌, ◌⊎◌, ◌++◌, ◌∷◌, ℕ, List, [], length, IfSome, Result, Ok, Err}
use Rattle.std.specs.Prelude.{codes}
use Rattle.outside_io.specs.Faults.{Rose}
use Rattle.outside_io.specs.Openings.{disk_at}
use Rattle.outside_io.specs.Places.{Replaces, Untouched}
use Rattle.outside_io.specs.declared.disks.Disk.{Ghosts}
use Rattle.command_reports.specs.declared.exit_status.Status.{Status}
use Rattle.command_reports.specs.declared.exit_status.Status.TheVariants.{Done, Journal, DiskFault}
use Rattle.command_reports.specs.Scenes.{IsReady, Opens, Scene}
use Rattle.grant_journal.specs.Headers.{header_of}
use Rattle.grant_journal.specs.Histories.{ReadsAs}
use Rattle.path_recover.specs.Beginning.{HasInitCause, IsNotEmpty, IsUntouched, WasEmpty}
use Rattle.path_recover.specs.declared.journal_reading.beginning.InitFault.{InitFault}
use Rattle.path_recover.specs.declared.journal_reading.beginning.TheConstants.{BEGINNING_BYTES}
use Rattle.path_recover.specs.declared.journal_reading.beginning.InitFault.TheVariants.{NotEmpty}
use Rattle.path_recover.specs.declared.journal_reading.beginning.InitFault.TheVariants.{Fault}
use Rattle.path_recover.specs.Texts.{not_empty_text}
use Rattle.command_reports.specs.Refusals.{IsTold, line_with}
use Rattle.command_reports.specs.declared.refusals.Refusal.{Refusal}
use Rattle.command_reports.specs.Disks.{ChangesOnlyDisk, IsNotOpened}
use Rattle.init_command.specs.declared.beginnings.NotBegun.{NotBegun}
use Rattle.init_command.specs.declared.beginnings.NotBegun.TheVariants.{NotOpened, Refused}

-- the disk was empty, and now whatever a crash leaves of it is a journal of these files without
-- entries: the header and a closed gate, and nothing else
pub record IsBegun {D : Type 0} (disk : Ghosts D) (network base : List ℕ)
    (before after : D) : Type 0 where
  pub empty : WasEmpty disk before
  pub reads : (image : List ℕ) → disk.images after image
      → ReadsAs (header_of network base) [] image
  pub contents : IfSome (disk.contents after)
      (λ file. ReadsAs (header_of network base) [] file)
  pub exact : (image : List ℕ) → disk.images after image
      → image ≡ header_of network base ++ 0 ∷ []
  pub exact_now : IfSome (disk.contents after)
      (λ file. file ≡ header_of network base ++ 0 ∷ [])
  pub size : IfSome (disk.contents after) (λ file. length file ≡ BEGINNING_BYTES)
  pub quiet : disk.faults after ≡ disk.faults before

-- no journal was begun on the disk
pub record IsNotBegun {D : Type 0} (disk : Ghosts D) (fault : InitFault)
    (before after : D) : Type 0 where
  pub refused : IfSome (disk.contents before) (IsNotEmpty fault)
  pub untouched : IsUntouched disk before after fault
  pub cause : HasInitCause {T = Unit {0}} (disk.faults before) (disk.faults after) (Err fault)

-- the disk was opened, and a journal begun on it
pub record Begins {Src Snk Dsk : Type 0} (disk : Ghosts Dsk) (network base name : List ℕ)
    (old new : Scene Src Snk Dsk) : Type 0 where
  pub opens : Opens (disk_at name) old new
  pub began : Replaces (IsBegun disk network base) (old.disks name) (new.disks name)

-- what is reported where no journal was begun
abbrev pub TellsInit : List ℕ → InitFault → Refusal → Type 0
TellsInit name (NotEmpty len) refusal =
    IsTold Journal (line_with (codes "journal: ") (not_empty_text len)) refusal
TellsInit name Fault refusal = IsTold DiskFault (line_with (codes "disk: ") name) refusal

-- the disk was opened, and no journal begun on it
pub record IsRefused {Src Snk Dsk : Type 0} (disk : Ghosts Dsk) (name : List ℕ)
    (old new : Scene Src Snk Dsk) (refusal : Refusal) : Type 0 where
  pub fault : InitFault
  pub opens : Opens (disk_at name) old new
  pub left : Replaces (IsNotBegun disk fault) (old.disks name) (new.disks name)
  pub told : TellsInit name fault refusal

-- a journal was begun, or why it was not
abbrev pub BeginSays : {Src Snk Dsk : Type 0} → Ghosts Dsk → List ℕ → List ℕ → List ℕ
    → Scene Src Snk Dsk → Scene Src Snk Dsk → Result Status Refusal → Type 0
BeginSays disk network base name old new (Ok status) =
    (status ≡ Done) × Begins disk network base name old new
BeginSays disk network base name old new (Err refusal) =
    IsNotOpened name old new refusal ⊎ IsRefused disk name old new refusal

-- The step that begins a journal for files with these digests: its disk is opened
-- once, and nothing else changes.
pub record BeginStep {Src Snk Dsk : Type 0} (disk : Ghosts Dsk) (network base name : List ℕ)
    (old new : Scene Src Snk Dsk) (result : Result Status Refusal) : Type 0 where
  pub says : BeginSays disk network base name old new result
  pub only : ChangesOnlyDisk name old new

-- *inside*: what is done with the disk, before anything is told
abbrev pub DiskSays : {Src Snk Dsk : Type 0} → Ghosts Dsk → List ℕ → List ℕ → List ℕ
    → Scene Src Snk Dsk → Scene Src Snk Dsk → Result (Unit {0}) NotBegun → Type 0
DiskSays disk network base name old new (Ok _) = Begins disk network base name old new
DiskSays disk network base name old new (Err NotOpened) =
    (IsReady (old.standing (disk_at name)) → ⊥) × Untouched old.disks new.disks
    × Rose old.faults new.faults
DiskSays disk network base name old new (Err (Refused fault)) =
    Opens (disk_at name) old new
    × Replaces (IsNotBegun disk fault) (old.disks name) (new.disks name)
