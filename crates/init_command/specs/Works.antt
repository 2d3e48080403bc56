-- The work of `init`: the network and the base timetable are read, and then
-- a journal is begun, or moved.
use Rattle.std.specs.Prelude.{ℕ, List, [], ◌∷◌, Result, Ok}
use Rattle.outside_io.specs.Openings.{Opening, source_at, disk_at}
use Rattle.outside_io.specs.declared.disks.Disk.{Ghosts as Disks}
use Rattle.outside_io.specs.declared.sources.Source.{Ghosts as Sources}
use Rattle.command_reports.specs.declared.exit_status.Status.{Status}
use Rattle.command_reports.specs.declared.exit_status.Status.TheVariants.{Done}
use Rattle.command_reports.specs.Scenes.{Scene}
use Rattle.command_reports.specs.Works.{Follows}
use Rattle.command_reports.specs.declared.refusals.Refusal.{Refusal}
use Rattle.command_files.specs.Files.{BaseStep, NetworkStep}
use Rattle.command_files.specs.declared.bases.BaseFile.{BaseFile}
use Rattle.command_files.specs.declared.networks.NetworkFile.{NetworkFile}
use Rattle.init_command.specs.Begins.{BeginStep}
use Rattle.init_command.specs.Moves.{MoveStep}

-- a step over a network's and a base timetable's file
abbrev pub StepOver : Type 0 → Type 0 → Type 0 → Type 1
StepOver Src Snk Dsk =
    NetworkFile → BaseFile → Scene Src Snk Dsk → Scene Src Snk Dsk → Result Status Refusal
    → Type 0

-- the base timetable is read on the zones of the network, and then the last step is done
abbrev pub ReadsBase : {Src Snk Dsk : Type 0} → Sources Src → List ℕ → StepOver Src Snk Dsk
    → NetworkFile → Scene Src Snk Dsk → Scene Src Snk Dsk → Result Status Refusal → Type 0
ReadsBase source base Last network old new result =
    Follows (BaseStep source network.named.network.zones base)
    (λ (file : BaseFile). Last network file) old new result

-- the network is read, then the base timetable, and then the last step is done
abbrev pub ReadsBoth : {Src Snk Dsk : Type 0} → Sources Src → List ℕ → List ℕ
    → StepOver Src Snk Dsk → Scene Src Snk Dsk → Scene Src Snk Dsk → Result Status Refusal → Type 0
ReadsBoth source network base Last old new result =
    Follows (NetworkStep source network)
    (λ (file : NetworkFile). ReadsBase source base Last file) old new result

-- the last step of `init` of a new journal
abbrev pub BeginOver : {Src Snk Dsk : Type 0} → Disks Dsk → List ℕ → StepOver Src Snk Dsk
BeginOver disk journal network base old new result =
    BeginStep disk network.digest base.digest journal old new result

-- the last step of `init` of a journal that is moved
abbrev pub MoveOver : {Src Snk Dsk : Type 0} → Disks Dsk → List ℕ → List ℕ → StepOver Src Snk Dsk
MoveOver disk journal from network base old new result =
    MoveStep disk network base journal from old new result

-- the opening calls of `init` of a new journal, in order
abbrev pub init_calls : List ℕ → List ℕ → List ℕ → List Opening
init_calls network base journal =
    source_at network ∷ source_at base ∷ disk_at journal ∷ []

-- the opening calls of `init` of a journal that is moved, in order
abbrev pub move_calls : List ℕ → List ℕ → List ℕ → List ℕ → List Opening
move_calls network base journal from =
    source_at network ∷ source_at base ∷ disk_at journal ∷ disk_at from ∷ []

-- the network and the base timetable were read, and the last step was done
pub record IsDone {Src Snk Dsk : Type 0} (source : Sources Src) (network base : List ℕ)
    (Last : StepOver Src Snk Dsk) (old new : Scene Src Snk Dsk) : Type 0 where
  pub network_file : NetworkFile
  pub base_file : BaseFile
  pub first : Scene Src Snk Dsk
  pub second : Scene Src Snk Dsk
  pub read_network : NetworkStep source network old first (Ok network_file)
  pub read_base : BaseStep source network_file.named.network.zones base first second (Ok base_file)
  pub last : Last network_file base_file second new (Ok Done)
