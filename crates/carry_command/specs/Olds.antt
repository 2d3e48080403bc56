-- The journal that is carried: its disk is handed out, read, and put back once all else is done, so
-- that nothing is sold over it meanwhile.
use Rattle.std.specs.Prelude.{◌≡◌, ◌⊎◌, ℕ, List, Result, Ok, Err}
use Rattle.outside_io.specs.declared.disks.Disk.{Ghosts}
use Rattle.command_reports.specs.Scenes.{Scene}
use Rattle.path_recover.specs.history.Legal.{Register}
use Rattle.path_recover.specs.declared.journal_reading.faults.OpenFault.{OpenFault}
use Rattle.command_files.specs.declared.bases.BaseFile.{BaseFile}
use Rattle.command_files.specs.declared.networks.NetworkFile.{NetworkFile}
use Rattle.command_reports.specs.declared.refusals.Refusal.{Refusal}
use Rattle.command_reports.specs.Disks.{ChangesOnlyDisk, IsNotOpened}
use Rattle.init_command.specs.Moves.{TellsFrom}
use Rattle.command_files.specs.Timetables.{timetable_on}
use Rattle.print_commands.specs.Journals.{IsHistoryOn, IsRefusedOn}
use Rattle.carry_command.specs.Lent.{IsLent, IsReturned}

-- what is done over a history, while the disk that has it is out
abbrev pub Over : Type 0 → Type 0 → Type 0 → Type 0 → Type 1
Over Src Snk Dsk A =
    Register → Scene Src Snk Dsk → Scene Src Snk Dsk → Result A Refusal → Type 0

-- the disk has a journal of these files with this history, and was only read
pub record IsOldRead {D : Type 0} (disk : Ghosts D) (network : NetworkFile) (base : BaseFile)
    (history : Register) (before after : D) : Type 0 where
  pub timetable : history.timetable ≡ timetable_on network base
  pub read : IsHistoryOn disk network base history.entries before after

-- the disk is refused, and was only read; nothing else was done
pub record IsOldRefused {Src Snk Dsk : Type 0} (disk : Ghosts Dsk) (network : NetworkFile)
    (base : BaseFile) (name : List ℕ) (before after : Dsk) (old new : Scene Src Snk Dsk)
    (refusal : Refusal) : Type 0 where
  pub fault : OpenFault
  pub left : IsRefusedOn disk network base fault before after
  pub told : TellsFrom name fault refusal
  pub same : new ≡ old

-- the history was read, and this was done over it
pub record GoesOver {Src Snk Dsk A : Type 0} (disk : Ghosts Dsk) (network : NetworkFile)
    (base : BaseFile) (Next : Over Src Snk Dsk A) (before after : Dsk) (old new : Scene Src Snk Dsk)
    (result : Result A Refusal) : Type 0 where
  pub history : Register
  pub read : IsOldRead disk network base history before after
  pub next : Next history old new result

-- what was done while the disk was out
abbrev pub LentSays : {Src Snk Dsk A : Type 0} → Ghosts Dsk → NetworkFile → BaseFile → List ℕ
    → Over Src Snk Dsk A → Dsk → Dsk → Scene Src Snk Dsk → Scene Src Snk Dsk
    → Result A Refusal → Type 0
LentSays disk network base name Next before after old new (Ok done) =
    GoesOver disk network base Next before after old new (Ok done)
LentSays disk network base name Next before after old new (Err refusal) =
    IsOldRefused disk network base name before after old new refusal
    ⊎ GoesOver disk network base Next before after old new (Err refusal)

-- the disk was handed out, and put back behind all that was done
pub record IsHeldOver {Src Snk Dsk A : Type 0} (disk : Ghosts Dsk) (network : NetworkFile)
    (base : BaseFile) (name : List ℕ) (Next : Over Src Snk Dsk A) (old new : Scene Src Snk Dsk)
    (result : Result A Refusal) : Type 0 where
  pub before : Dsk
  pub after : Dsk
  pub out : Scene Src Snk Dsk
  pub done : Scene Src Snk Dsk
  pub lent : IsLent name before old out
  pub says : LentSays disk network base name Next before after out done result
  pub returned : IsReturned name after done new

-- the disk could not be opened, and nothing else was done
pub record IsOldShut {Src Snk Dsk : Type 0} (name : List ℕ) (old new : Scene Src Snk Dsk)
    (refusal : Refusal) : Type 0 where
  pub told : IsNotOpened name old new refusal
  pub only : ChangesOnlyDisk name old new

-- The step over the old journal: its disk is opened once and only read, by the network and the base
-- file of before, and while it is out this is done over its history.
abbrev pub OldStep : {Src Snk Dsk A : Type 0} → Ghosts Dsk → NetworkFile → BaseFile → List ℕ
    → Over Src Snk Dsk A → Scene Src Snk Dsk → Scene Src Snk Dsk → Result A Refusal → Type 0
OldStep disk network base name Next old new (Ok done) =
    IsHeldOver disk network base name Next old new (Ok done)
OldStep disk network base name Next old new (Err refusal) =
    IsOldShut name old new refusal
    ⊎ IsHeldOver disk network base name Next old new (Err refusal)
