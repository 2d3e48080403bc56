-- How a journal of version 1 is moved to a disk.
use Rattle.std.specs.Prelude.{◌≡◌, ◌≢◌, ◌⊎◌, ℕ, List, [], ◌∷◌, IfSome, Option, None, Some, Result}
use Rattle.std.specs.Prelude.{Ok, Err, codes}
use Rattle.outside_io.specs.Faults.{Rose}
use Rattle.outside_io.specs.Openings.{disk_at, Opening, Opens as CallsOf}
use Rattle.outside_io.specs.Places.{Replaces, Untouched}
use Rattle.outside_io.specs.declared.disks.Disk.{Ghosts}
use Rattle.command_reports.specs.declared.exit_status.Status.{Status}
use Rattle.command_reports.specs.declared.exit_status.Status.TheVariants.{Done, Journal}
use Rattle.command_reports.specs.declared.exit_status.Status.TheVariants.{Opening as not_opened}
use Rattle.command_reports.specs.declared.exit_status.Status.TheVariants.{DiskFault}
use Rattle.command_reports.specs.Scenes.{IsReady, IsShut, Opens, Scene}
use Rattle.path_recover.specs.Beginning.{WasEmpty}
use Rattle.path_recover.specs.declared.journal_reading.faults.OpenFault.{OpenFault}
use Rattle.path_recover.specs.declared.journal_reading.faults.OpenFault.TheVariants.{ReadFault}
use Rattle.path_recover.specs.Failing.{IsOnlyRead}
use Rattle.path_recover.specs.Moving.{HasMoveCause, IsMoved, IsMoveRefused, IsUnwritten}
use Rattle.path_recover.specs.declared.history_reading.moves.MoveFault.{MoveFault}
use Rattle.path_recover.specs.declared.history_reading.moves.MoveFault.TheVariants.{NotEmpty, From}
use Rattle.path_recover.specs.declared.history_reading.moves.MoveFault.TheVariants.{Fault}
use Rattle.path_recover.specs.declared.history_reading.moves.MoveFault.TheVariants.{Memory}
use Rattle.path_recover.specs.Texts.{fault_text, not_empty_text}
use Rattle.command_files.specs.declared.bases.BaseFile.{BaseFile}
use Rattle.command_files.specs.declared.networks.NetworkFile.{NetworkFile}
use Rattle.command_files.specs.Timetables.{timetable_on}
use Rattle.command_reports.specs.Refusals.{IsTold, line_with}
use Rattle.command_reports.specs.Works.{Keeps, KeepsTo}
use Rattle.command_reports.specs.declared.refusals.Refusal.{Refusal}
use Rattle.command_reports.specs.declared.refusals.Refusal.TheVariants.{Memory as wants_memory}
use Rattle.command_reports.specs.Disks.{BothReplaced, IsNotOpened}
use Rattle.init_command.specs.declared.moving.NotMoved.{NotMoved}
use Rattle.init_command.specs.declared.moving.NotMoved.TheVariants.{NotOpened, FromNotOpened}
use Rattle.init_command.specs.declared.moving.NotMoved.TheVariants.{Refused}

-- the new disk was empty, and has the journal of the old one now, whatever a crash
-- leaves; the old one was only read
pub record IsMovedTo {D : Type 0} (disk : Ghosts D) (network : NetworkFile) (base : BaseFile)
    (before after from_before from_after : D) : Type 0 where
  pub count : ℕ
  pub moved : IfSome (disk.contents from_before)
      (IsMoved (timetable_on network base) network.digest base.digest count (disk.images after))
  pub empty : WasEmpty disk before
  pub read : IsOnlyRead disk from_before from_after
  pub quiet : disk.faults after ≡ disk.faults before
  pub from_quiet : disk.faults from_after ≡ disk.faults from_before

-- the journal was not moved, and the old disk was only read
pub record IsNotMoved {D : Type 0} (disk : Ghosts D) (network : NetworkFile) (base : BaseFile)
    (fault : MoveFault) (before after from_before from_after : D) : Type 0 where
  pub refused : IsMoveRefused disk disk (timetable_on network base) network.digest base.digest
      before from_before fault
  pub unwritten : IsUnwritten disk before after fault
  pub read : IsOnlyRead disk from_before from_after
  pub cause : HasMoveCause (disk.faults before) (disk.faults after) (disk.faults from_before)
      (disk.faults from_after) fault

-- both disks were opened
pub record OpensBoth {Src Snk Dsk : Type 0} (journal from : List ℕ)
    (old new : Scene Src Snk Dsk) : Type 0 where
  pub journal_open : IsShut (old.standing (disk_at journal)) → ⊥
  pub from_open : IsShut (old.standing (disk_at from)) → ⊥
  pub quiet : new.faults ≡ old.faults

-- both disks were opened, and the journal was moved
pub record Moves {Src Snk Dsk : Type 0} (disk : Ghosts Dsk) (network : NetworkFile)
    (base : BaseFile) (journal from : List ℕ) (old new : Scene Src Snk Dsk) : Type 0 where
  pub opens : OpensBoth journal from old new
  pub moved : BothReplaced (IsMovedTo disk network base) journal from old new

-- what is reported of an old disk that is refused: a fault of the disk, or of the journal
abbrev pub TellsText : List ℕ → Option (List ℕ) → Refusal → Type 0
TellsText from (Some text) refusal = IsTold Journal (line_with (codes "from: ") text) refusal
TellsText from None refusal = refusal ≡ wants_memory

abbrev pub TellsFrom : List ℕ → OpenFault → Refusal → Type 0
TellsFrom from ReadFault refusal = IsTold DiskFault (line_with (codes "disk: ") from) refusal
TellsFrom from fault refusal = TellsText from (fault_text fault) refusal

-- what is reported where no journal was moved
abbrev pub TellsMove : List ℕ → List ℕ → MoveFault → Refusal → Type 0
TellsMove journal from (NotEmpty len) refusal =
    IsTold Journal (line_with (codes "journal: ") (not_empty_text len)) refusal
TellsMove journal from (From fault) refusal = TellsFrom from fault refusal
TellsMove journal from Fault refusal =
    IsTold DiskFault (line_with (codes "disk: ") journal) refusal
TellsMove journal from Memory refusal = refusal ≡ wants_memory

-- both disks were opened, and no journal was moved
pub record IsMoveTold {Src Snk Dsk : Type 0} (disk : Ghosts Dsk) (network : NetworkFile)
    (base : BaseFile) (journal from : List ℕ) (old new : Scene Src Snk Dsk)
    (refusal : Refusal) : Type 0 where
  pub fault : MoveFault
  pub opens : OpensBoth journal from old new
  pub left : BothReplaced (IsNotMoved disk network base fault) journal from old new
  pub told : TellsMove journal from fault refusal

-- the disk of the old journal could not be opened; the new one was, and is as it was
pub record IsFromNotOpened {Src Snk Dsk : Type 0} (journal from : List ℕ)
    (old new : Scene Src Snk Dsk) (refusal : Refusal) : Type 0 where
  pub journal_open : IsShut (old.standing (disk_at journal)) → ⊥
  pub unready : from ≢ journal → IsReady (old.standing (disk_at from)) → ⊥
  pub same : Untouched old.disks new.disks
  pub rose : Rose old.faults new.faults
  pub told : IsTold not_opened (line_with (codes "open: ") from) refusal

-- a journal was moved, or why it was not
abbrev pub MoveSays : {Src Snk Dsk : Type 0} → Ghosts Dsk → NetworkFile → BaseFile → List ℕ
    → List ℕ → Scene Src Snk Dsk → Scene Src Snk Dsk → Result Status Refusal → Type 0
MoveSays disk network base journal from old new (Ok status) =
    (status ≡ Done) × Moves disk network base journal from old new
MoveSays disk network base journal from old new (Err refusal) =
    IsNotOpened journal old new refusal
    ⊎ (IsFromNotOpened journal from old new refusal
    ⊎ IsMoveTold disk network base journal from old new refusal)

-- The step that moves a journal: the new disk is opened, and then the old one, each
-- once, and nothing else changes.
pub record MoveStep {Src Snk Dsk : Type 0} (disk : Ghosts Dsk) (network : NetworkFile)
    (base : BaseFile) (journal from : List ℕ) (old new : Scene Src Snk Dsk)
    (result : Result Status Refusal) : Type 0 where
  pub says : MoveSays disk network base journal from old new result
  pub only : KeepsTo (disk_at journal ∷ disk_at from ∷ []) old new result

-- *inside*: what the move of a journal between two disks comes to
abbrev pub MoveEnds : {D : Type 0} → Ghosts D → NetworkFile → BaseFile → D → D → D → D
    → Result (Unit {0}) MoveFault → Type 0
MoveEnds disk network base before after from_before from_after (Ok _) =
    IsMovedTo disk network base before after from_before from_after
MoveEnds disk network base before after from_before from_after (Err fault) =
    IsNotMoved disk network base fault before after from_before from_after

-- *inside*: what is done with the old disk, while the new one is open
abbrev pub FromSays : {Src Snk Dsk : Type 0} → Ghosts Dsk → NetworkFile → BaseFile → Dsk → Dsk
    → List ℕ → Scene Src Snk Dsk → Scene Src Snk Dsk → Result (Unit {0}) NotMoved → Type 0
FromSays disk network base before after from old new (Ok _) =
    Opens (disk_at from) old new
    × Replaces (IsMovedTo disk network base before after) (old.disks from) (new.disks from)
FromSays disk network base before after from old new (Err NotOpened) = ⊥
FromSays disk network base before after from old new (Err FromNotOpened) =
    (IsReady (old.standing (disk_at from)) → ⊥) × Untouched old.disks new.disks
    × Rose old.faults new.faults × (after ≡ before)
FromSays disk network base before after from old new (Err (Refused fault)) =
    Opens (disk_at from) old new
    × Replaces (IsNotMoved disk network base fault before after) (old.disks from)
    (new.disks from)

-- *inside*: what is done with both disks, before anything is told
abbrev pub DisksSay : {Src Snk Dsk : Type 0} → Ghosts Dsk → NetworkFile → BaseFile → List ℕ
    → List ℕ → Scene Src Snk Dsk → Scene Src Snk Dsk → Result (Unit {0}) NotMoved → Type 0
DisksSay disk network base journal from old new (Ok _) =
    Moves disk network base journal from old new
DisksSay disk network base journal from old new (Err NotOpened) =
    (IsReady (old.standing (disk_at journal)) → ⊥) × Untouched old.disks new.disks
    × Rose old.faults new.faults
DisksSay disk network base journal from old new (Err FromNotOpened) =
    (IsShut (old.standing (disk_at journal)) → ⊥)
    × (from ≢ journal → IsReady (old.standing (disk_at from)) → ⊥)
    × Untouched old.disks new.disks × Rose old.faults new.faults
DisksSay disk network base journal from old new (Err (Refused fault)) =
    OpensBoth journal from old new
    × BothReplaced (IsNotMoved disk network base fault) journal from old new

-- *inside*: the opening calls of a move: the new disk, and the old one where the new one was opened
abbrev pub calls_at : List ℕ → List ℕ → Result (Unit {0}) NotMoved → List Opening
calls_at journal from (Err NotOpened) = disk_at journal ∷ []
calls_at journal from result = disk_at journal ∷ disk_at from ∷ []

-- *inside*: a move keeps to its disks
pub record DisksKeep {Src Snk Dsk : Type 0} (journal from : List ℕ) (old new : Scene Src Snk Dsk)
    (result : Result (Unit {0}) NotMoved) : Type 0 where
  pub keeps : Keeps (disk_at journal ∷ disk_at from ∷ []) old new
  pub opened : CallsOf (calls_at journal from result) old.opened new.opened
