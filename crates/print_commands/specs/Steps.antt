-- The work of a command over a journal: three files are read to a history, and
-- what is told of it is written.
use Rattle.std.specs.Prelude.{◌≡◌, ◌⊎◌, ℕ, List, [], ◌∷◌, Result, Ok}
use Rattle.outside_io.specs.Openings.{Opening, source_at, sink_at, disk_at}
use Rattle.outside_io.specs.Places.{Place, Replaces}
use Rattle.outside_io.specs.declared.disks.Disk.{Ghosts as Disks}
use Rattle.outside_io.specs.declared.sinks.Sink.{Ghosts as Sinks}
use Rattle.outside_io.specs.declared.sources.Source.{Ghosts as Sources}
use Rattle.command_reports.specs.declared.exit_status.Status.{Status}
use Rattle.command_reports.specs.Scenes.{Scene}
use Rattle.command_reports.specs.Writing.{TookAll}
use Rattle.grant_log.specs.Legal.{Register}
use Rattle.path_recover.specs.Failing.{IsOnlyRead}
use Rattle.command_reports.specs.Works.{Follows}
use Rattle.command_reports.specs.declared.refusals.Refusal.{Refusal}
use Rattle.command_files.specs.Files.{BaseStep, NetworkStep}
use Rattle.command_files.specs.Outs.{OutStep, Writes}
use Rattle.command_files.specs.declared.bases.BaseFile.{BaseFile}
use Rattle.command_files.specs.declared.networks.NetworkFile.{NetworkFile}
use Rattle.print_commands.specs.Journals.{JournalStep}

-- the base timetable is read on the zones of the network, and then the journal of both
abbrev pub ReadsOn : {Src Snk Dsk : Type 0} → Sources Src → Disks Dsk → List ℕ → List ℕ
    → NetworkFile → Scene Src Snk Dsk → Scene Src Snk Dsk → Result Register Refusal → Type 0
ReadsOn source disk base journal network old new result =
    Follows (BaseStep source network.named.network.zones base)
    (λ (file : BaseFile). JournalStep disk network file journal) old new result

-- the network is read, then the base timetable, and then the journal of both
abbrev pub ReadsHistory : {Src Snk Dsk : Type 0} → Sources Src → Disks Dsk → List ℕ → List ℕ
    → List ℕ → Scene Src Snk Dsk → Scene Src Snk Dsk → Result Register Refusal → Type 0
ReadsHistory source disk network base journal old new result =
    Follows (NetworkStep source network)
    (λ (file : NetworkFile). ReadsOn source disk base journal file) old new result

-- what a command tells of a history: bytes, or why there are none
abbrev pub Telling : Type 1
Telling = Register → Result (List ℕ) Refusal → Type 0

-- something is told, and the outside is left alone
abbrev pub Tells : {Src Snk Dsk : Type 0} → (Result (List ℕ) Refusal → Type 0)
    → Scene Src Snk Dsk → Scene Src Snk Dsk → Result (List ℕ) Refusal → Type 0
Tells Says old new result = (new ≡ old) × Says result

-- what is told of a history is written
abbrev pub WritesTold : {Src Snk Dsk : Type 0} → Sinks Snk → List ℕ → Telling → Register
    → Scene Src Snk Dsk → Scene Src Snk Dsk → Result Status Refusal → Type 0
WritesTold sink out Says history old new result =
    Follows (Tells (Says history)) (λ (bytes : List ℕ). OutStep sink out bytes) old new result

-- a history is read by this step, and what is told of it is written
abbrev pub Prints : {Src Snk Dsk : Type 0} → Sinks Snk
    → (Scene Src Snk Dsk → Scene Src Snk Dsk → Result Register Refusal → Type 0) → List ℕ
    → Telling → Scene Src Snk Dsk → Scene Src Snk Dsk → Result Status Refusal → Type 0
Prints sink Reads out Says old new result =
    Follows Reads (λ (history : Register). WritesTold sink out Says history) old new result

-- the opening calls of such a command, in order: the three files, and what is
-- written once nothing else refuses
abbrev pub print_calls : List ℕ → List ℕ → List ℕ → List ℕ → List Opening
print_calls network base journal out =
    source_at network ∷ source_at base ∷ disk_at journal ∷ sink_at out ∷ []

-- the three files were read, each as it stood then, to this history
pub record HasRead {Src Snk Dsk : Type 0} (source : Sources Src) (disk : Disks Dsk)
    (network base journal : List ℕ) (old new : Scene Src Snk Dsk) (history : Register)
    : Type 0 where
  pub network_file : NetworkFile
  pub base_file : BaseFile
  pub first : Scene Src Snk Dsk
  pub second : Scene Src Snk Dsk
  pub read_network : NetworkStep source network old first (Ok network_file)
  pub read_base :
      BaseStep source network_file.named.network.zones base first second (Ok base_file)
  pub read_journal : JournalStep disk network_file base_file journal second new (Ok history)

-- the three files were read, and what is told of their history was written whole,
-- behind what the sink held at first
pub record IsPrinted {Src Snk Dsk : Type 0} (source : Sources Src) (sink : Sinks Snk)
    (disk : Disks Dsk) (network base journal out : List ℕ) (Says : Telling)
    (old new : Scene Src Snk Dsk) : Type 0 where
  pub history : Register
  pub between : Scene Src Snk Dsk
  pub read : HasRead source disk network base journal old between history
  pub bytes : List ℕ
  pub says : Says history (Ok bytes)
  pub wrote : Writes (TookAll sink bytes) out old new

-- a disk was read and not written to, or was not touched
abbrev pub WasOnlyRead : {D : Type 0} → Disks D → Place D → Place D → Type 0
WasOnlyRead disk old new = (new ≡ old) ⊎ Replaces (IsOnlyRead disk) old new
