-- The disk of the new journal: it is empty, and the journal is written to it whole.
use Rattle.std.specs.Prelude.{◌≡◌, ◌⊎◌, ℕ, List, IfSome, Result, Ok, Err}
use Rattle.outside_io.specs.Disks.{Spans}
use Rattle.outside_io.specs.Faults.{Rose}
use Rattle.outside_io.specs.Openings.{disk_at}
use Rattle.outside_io.specs.Places.{Replaces, Untouched}
use Rattle.outside_io.specs.declared.disks.Disk.{Ghosts}
use Rattle.command_reports.specs.Scenes.{IsReady, Opens, Scene}
use Rattle.path_recover.specs.Beginning.{IsAsItWas, WasEmpty}
use Rattle.path_recover.specs.declared.journal_reading.beginning.InitFault.{InitFault}
use Rattle.carry_command.specs.Unfinished.{IsWholeOrUnfinished}
use Rattle.command_reports.specs.declared.refusals.Refusal.{Refusal}
use Rattle.init_command.specs.Begins.{IsNotBegun, TellsInit}
use Rattle.command_reports.specs.Disks.{ChangesOnlyDisk, IsNotOpened}
use Rattle.carry_command.specs.declared.disks.NotDone.{NotDone}
use Rattle.carry_command.specs.declared.disks.NotDone.TheVariants.{NotOpened, Refused}

-- the disk has no byte, and was only looked at
pub record IsEmpty {D : Type 0} (disk : Ghosts D) (before after : D) : Type 0 where
  pub empty : WasEmpty disk before
  pub same : IsAsItWas disk before after
  pub quiet : disk.faults after ≡ disk.faults before

-- the disk was only looked at, and refused
pub record IsNotEmptyDisk {D : Type 0} (disk : Ghosts D) (fault : InitFault)
    (before after : D) : Type 0 where
  pub refused : IsNotBegun disk fault before after
  pub same : IsAsItWas disk before after

-- at each moment in between a crash left what it would have left before, or the whole file, or
-- bytes that are told from it by their first byte or are at most one
abbrev pub LeavesWhole : {D : Type 0} → Ghosts D → List ℕ → D → D → Type 0
LeavesWhole disk file before after =
    Spans disk.clock disk.since before after
    (λ image. disk.images before image ⊎ IsWholeOrUnfinished file image)

-- the disk was empty and has the whole file now, whatever a crash leaves
pub record IsWritten {D : Type 0} (disk : Ghosts D) (file : List ℕ) (before after : D)
    : Type 0 where
  pub empty : WasEmpty disk before
  pub whole : (image : List ℕ) → disk.images after image → image ≡ file
  pub contents : IfSome (disk.contents after) (λ bytes. bytes ≡ file)
  pub moments : LeavesWhole disk file before after
  pub quiet : disk.faults after ≡ disk.faults before

-- the file was not written as a whole
pub record IsNotWritten {D : Type 0} (disk : Ghosts D) (file : List ℕ) (fault : InitFault)
    (before after : D) : Type 0 where
  pub refused : IsNotBegun disk fault before after
  pub moments : LeavesWhole disk file before after
  pub left : (image : List ℕ) → disk.images after image
      → disk.images before image ⊎ IsWholeOrUnfinished file image

-- the disk was opened, and this done with it
pub record IsDoneWith {Src Snk Dsk : Type 0} (Does : Dsk → Dsk → Type 0) (name : List ℕ)
    (old new : Scene Src Snk Dsk) : Type 0 where
  pub opens : Opens (disk_at name) old new
  pub done : Replaces Does (old.disks name) (new.disks name)

-- the disk was opened, and refused
pub record IsDiskRefused {Src Snk Dsk : Type 0} (Fails : InitFault → Dsk → Dsk → Type 0)
    (name : List ℕ) (old new : Scene Src Snk Dsk) (refusal : Refusal) : Type 0 where
  pub fault : InitFault
  pub opens : Opens (disk_at name) old new
  pub left : Replaces (Fails fault) (old.disks name) (new.disks name)
  pub told : TellsInit name fault refusal

-- something was done with a disk, or why it was not
abbrev pub DiskSays : {Src Snk Dsk : Type 0} → (Dsk → Dsk → Type 0)
    → (InitFault → Dsk → Dsk → Type 0) → List ℕ → Scene Src Snk Dsk → Scene Src Snk Dsk
    → Result (Unit {0}) Refusal → Type 0
DiskSays Does Fails name old new (Ok _) = IsDoneWith Does name old new
DiskSays Does Fails name old new (Err refusal) =
    IsNotOpened name old new refusal ⊎ IsDiskRefused Fails name old new refusal

-- A step that does something with a disk: it is opened once, and nothing else changes.
pub record DiskStep {Src Snk Dsk : Type 0} (Does : Dsk → Dsk → Type 0)
    (Fails : InitFault → Dsk → Dsk → Type 0) (name : List ℕ) (old new : Scene Src Snk Dsk)
    (result : Result (Unit {0}) Refusal) : Type 0 where
  pub says : DiskSays Does Fails name old new result
  pub only : ChangesOnlyDisk name old new

-- the step that finds a disk empty
abbrev pub EmptyStep : {Src Snk Dsk : Type 0} → Ghosts Dsk → List ℕ → Scene Src Snk Dsk
    → Scene Src Snk Dsk → Result (Unit {0}) Refusal → Type 0
EmptyStep disk name old new result =
    DiskStep (IsEmpty disk) (IsNotEmptyDisk disk) name old new result

-- the step that writes a file whole
abbrev pub WriteStep : {Src Snk Dsk : Type 0} → Ghosts Dsk → List ℕ → List ℕ → Scene Src Snk Dsk
    → Scene Src Snk Dsk → Result (Unit {0}) Refusal → Type 0
WriteStep disk file name old new result =
    DiskStep (IsWritten disk file) (IsNotWritten disk file) name old new result

-- *inside*: what is done with the disk, before anything is told
abbrev pub DiskEnds : {Src Snk Dsk : Type 0} → (Dsk → Dsk → Type 0)
    → (InitFault → Dsk → Dsk → Type 0) → List ℕ → Scene Src Snk Dsk → Scene Src Snk Dsk
    → Result (Unit {0}) NotDone → Type 0
DiskEnds Does Fails name old new (Ok _) = IsDoneWith Does name old new
DiskEnds Does Fails name old new (Err NotOpened) =
    (IsReady (old.standing (disk_at name)) → ⊥) × Untouched old.disks new.disks
    × Rose old.faults new.faults
DiskEnds Does Fails name old new (Err (Refused fault)) =
    Opens (disk_at name) old new
    × Replaces (Fails fault) (old.disks name) (new.disks name)
