-- The three files of a command: what their bytes mean, and their first faults.
use Rattle.std.specs.Prelude.{◌≡◌, ◌≢◌, ◌⊎◌, ℕ, List, Result, Ok, Err}
use Rattle.sha2.specs.Sha256.{sha256}
use Rattle.base_file.specs.Base.{base_at, ReadsAsOverlap}
use Rattle.base_file.specs.Sound.{IsBaseOn}
use Rattle.base_file.specs.Texts.{fault_text as base_text}
use Rattle.base_file.specs.declared.faults.BaseFault.{BaseFault}
use Rattle.base_file.specs.declared.faults.BaseFault.TheVariants as of_base
use Rattle.decimal_quote.specs.Quoted.{IsQuoted}
use Rattle.command_reports.specs.Scenes.{Scene}
use Rattle.infra_fields.specs.Texts.{fault_text as read_text}
use Rattle.infra_fields.specs.declared.faults.InfraFault.{InfraFault}
use Rattle.infra_fields.specs.declared.faults.InfraFault.TheVariants as reading
use Rattle.rail_types.specs.declared.infra_types.infras.Infra.{Infra}
use Rattle.rail_types.specs.declared.named_network.Named.{Named}
use Rattle.outside_io.specs.declared.sources.Source.{Ghosts}
use Rattle.rail_types.specs.declared.bases.Base.{Base}
use Rattle.rail_types.specs.declared.trains.Train.{Train}
use Rattle.railjson_read.specs.Files.{infra_at}
use Rattle.signal_blocks.specs.Networks.{IsNetworkOf, NetTells}
use Rattle.signal_blocks.specs.Texts.{fault_text as net_text}
use Rattle.signal_blocks.specs.declared.faults.NetFault.{NetFault}
use Rattle.signal_blocks.specs.declared.faults.NetFault.TheVariants as network
use Rattle.train_file.specs.Texts.{fault_text as train_text}
use Rattle.train_file.specs.Trains.{trains_at}
use Rattle.train_file.specs.declared.faults.TrainFault.{TrainFault}
use Rattle.train_file.specs.declared.faults.TrainFault.TheVariants as of_trains
use Rattle.command_reports.specs.declared.refusals.Refusal.{Refusal}
use Rattle.command_reports.specs.declared.refusals.Refusal.TheVariants.{Memory}
use Rattle.command_reports.specs.Refusals.{IsTold, line_with}
use Rattle.command_files.specs.Kinds.{head_of, status_of}
use Rattle.command_files.specs.Steps.{FileStep, IsFaulty, MeansOrRefuses}
use Rattle.command_files.specs.declared.bases.BaseFile.{BaseFile}
use Rattle.command_files.specs.declared.files.FileKind.TheVariants as file
use Rattle.command_files.specs.declared.networks.NetworkFile.{NetworkFile}

-- the bytes, with their numbers quoted, read as this
abbrev pub ReadAs : List ℕ → Result Infra InfraFault → Type 0
ReadAs bytes read = (quoted : List ℕ) → IsQuoted bytes quoted → infra_at bytes quoted ≡ read

-- the bytes are the file of an infrastructure
abbrev pub IsInfraOf : List ℕ → Infra → Type 0
IsInfraOf bytes infra = ReadAs bytes (Ok infra)

-- the bytes are the file of an infrastructure with this network
pub record TellsNetwork (bytes : List ℕ) (named : Named) : Type 0 where
  pub infra : Infra
  pub read : IsInfraOf bytes infra
  pub network : IsNetworkOf infra named

-- the bytes are a network's file with this network and this digest
pub record IsNetworkFile (bytes : List ℕ) (file : NetworkFile) : Type 0 where
  pub tells : TellsNetwork bytes file.named
  pub digest : file.digest ≡ sha256 bytes

-- the bytes are no infrastructure, and this is the text of their first fault
pub record IsReadFault (bytes text : List ℕ) : Type 0 where
  pub fault : InfraFault
  pub read : ReadAs bytes (Err fault)
  pub some : fault ≢ reading.Memory
  pub text_is : text ≡ read_text fault

-- the bytes are an infrastructure without a network, and this is the text of its first fault
pub record IsNetFault (bytes text : List ℕ) : Type 0 where
  pub infra : Infra
  pub fault : NetFault
  pub read : IsInfraOf bytes infra
  pub tells : NetTells infra fault
  pub some : fault ≢ network.Memory
  pub text_is : text ≡ net_text fault

-- the bytes have a first fault, with this text
abbrev pub HasNetworkFault : List ℕ → List ℕ → Type 0
HasNetworkFault bytes text = IsReadFault bytes text ⊎ IsNetFault bytes text

-- the step that reads a network's file
abbrev pub NetworkStep : {Src Snk Dsk : Type 0} → Ghosts Src → List ℕ → Scene Src Snk Dsk
    → Scene Src Snk Dsk → Result NetworkFile Refusal → Type 0
NetworkStep source name old new result =
    FileStep file.Network source name IsNetworkFile HasNetworkFault old new result

-- the same where nothing is told of the file but its network
abbrev pub NetworkTold : {Src Snk Dsk : Type 0} → Ghosts Src → List ℕ → Scene Src Snk Dsk
    → Scene Src Snk Dsk → Result Named Refusal → Type 0
NetworkTold source name old new (Ok named) =
    (file : NetworkFile) × (file.named ≡ named) × NetworkStep source name old new (Ok file)
NetworkTold source name old new (Err refusal) = NetworkStep source name old new (Err refusal)

-- the bytes, with their numbers quoted, read as this base timetable on so many zones
abbrev pub TellsBaseOf : ℕ → List ℕ → Base → Type 0
TellsBaseOf zones bytes base =
    (quoted : List ℕ) → IsQuoted bytes quoted → base_at zones bytes quoted ≡ Ok base

-- the bytes are a base file with this base timetable, in which no two trains want one
-- zone at once, and this digest
pub record IsBaseFile (zones : ℕ) (bytes : List ℕ) (file : BaseFile) : Type 0 where
  pub tells : TellsBaseOf zones bytes file.base
  pub sound : IsBaseOn zones file.base
  pub digest : file.digest ≡ sha256 bytes

-- the bytes have this first fault: of reading, or the first overlap of two trains
abbrev pub ReadsAsFault : ℕ → List ℕ → BaseFault → Type 0
ReadsAsFault zones bytes fault =
    (quoted : List ℕ) → IsQuoted bytes quoted
    → (base_at zones bytes quoted ≡ Err fault) ⊎ ReadsAsOverlap (base_at zones bytes quoted) fault

-- the bytes have a first fault, with this text
pub record HasBaseFault (zones : ℕ) (bytes text : List ℕ) : Type 0 where
  pub fault : BaseFault
  pub read : ReadsAsFault zones bytes fault
  pub some : fault ≢ of_base.Memory
  pub text_is : text ≡ base_text fault

-- the step that reads a base file on so many zones
abbrev pub BaseStep : {Src Snk Dsk : Type 0} → Ghosts Src → ℕ → List ℕ → Scene Src Snk Dsk
    → Scene Src Snk Dsk → Result BaseFile Refusal → Type 0
BaseStep source zones name old new result =
    FileStep file.Base source name (IsBaseFile zones) (HasBaseFault zones) old new result

-- the bytes, with their numbers quoted, read as these trains
abbrev pub IsTrainFile : List ℕ → List Train → Type 0
IsTrainFile bytes trains =
    (quoted : List ℕ) → IsQuoted bytes quoted → trains_at bytes quoted ≡ Ok trains

-- the bytes have a first fault, with this text
pub record HasTrainFault (bytes text : List ℕ) : Type 0 where
  pub fault : TrainFault
  pub read : (quoted : List ℕ) → IsQuoted bytes quoted → trains_at bytes quoted ≡ Err fault
  pub some : fault ≢ of_trains.Memory
  pub text_is : text ≡ train_text fault

-- the step that reads a train file
abbrev pub TrainStep : {Src Snk Dsk : Type 0} → Ghosts Src → List ℕ → Scene Src Snk Dsk
    → Scene Src Snk Dsk → Result (List Train) Refusal → Type 0
TrainStep source name old new result =
    FileStep file.Trains source name IsTrainFile HasTrainFault old new result

-- *inside*: what a call over a network's bytes says
abbrev pub NamedSays : List ℕ → Result Named Refusal → Type 0
NamedSays bytes result = MeansOrRefuses file.Network TellsNetwork HasNetworkFault bytes result

-- *inside*: what a call over a base file's bytes says
abbrev pub BaseSays : ℕ → List ℕ → Result Base Refusal → Type 0
BaseSays zones bytes result =
    MeansOrRefuses file.Base (TellsBaseOf zones) (HasBaseFault zones) bytes result

-- *inside*: what a call over a train file's bytes says
abbrev pub TrainsSay : List ℕ → Result (List Train) Refusal → Type 0
TrainsSay bytes result = MeansOrRefuses file.Trains IsTrainFile HasTrainFault bytes result

-- *inside*: a fault that is no want of memory, told with its text; or memory was wanted
abbrev pub TellsRead : InfraFault → Refusal → Type 0
TellsRead fault refusal =
    ((fault ≢ reading.Memory) × IsTold (status_of file.Network)
    (line_with (head_of file.Network) (read_text fault)) refusal) ⊎ (refusal ≡ Memory)

abbrev pub TellsNet : NetFault → Refusal → Type 0
TellsNet fault refusal =
    ((fault ≢ network.Memory) × IsTold (status_of file.Network)
    (line_with (head_of file.Network) (net_text fault)) refusal) ⊎ (refusal ≡ Memory)

abbrev pub TellsBase : BaseFault → Refusal → Type 0
TellsBase fault refusal =
    ((fault ≢ of_base.Memory) × IsTold (status_of file.Base)
    (line_with (head_of file.Base) (base_text fault)) refusal) ⊎ (refusal ≡ Memory)

abbrev pub TellsTrains : TrainFault → Refusal → Type 0
TellsTrains fault refusal =
    ((fault ≢ of_trains.Memory) × IsTold (status_of file.Trains)
    (line_with (head_of file.Trains) (train_text fault)) refusal) ⊎ (refusal ≡ Memory)

-- *inside*: why a file's bytes are no infrastructure
abbrev pub InfraSays : List ℕ → Refusal → Type 0
InfraSays bytes refusal = IsFaulty file.Network IsReadFault bytes refusal ⊎ (refusal ≡ Memory)
