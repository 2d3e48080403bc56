-- The work of `check`: the network, the trains and the base timetable are read, the journal of the
-- network and the base timetable, and then the proofs.
use Rattle.std.specs.Prelude.{ℕ, List, [], ◌∷◌, Vec, Result}
use Rattle.std.specs.Global.{Global}
use Rattle.command_files.specs.base.Sound.{IsBaseOn}
use Rattle.proof_texts.specs.lines.Names.{Names}
use Rattle.command_files.specs.Files.{BaseStep, NetworkStep, TrainStep}
use Rattle.command_files.specs.declared.bases.BaseFile.{BaseFile}
use Rattle.command_files.specs.declared.networks.NetworkFile.{NetworkFile}
use Rattle.command_reports.specs.Works.{Follows}
use Rattle.command_reports.specs.declared.refusals.Refusal.{Refusal}
use Rattle.command_reports.specs.Scenes.{Scene}
use Rattle.path_recover.specs.history.Legal.{Register}
use Rattle.print_commands.specs.Journals.{JournalStep}
use Rattle.print_commands.specs.Steps.{Tells}
use Rattle.rail_types.specs.Named.{IsNamed}
use Rattle.outside_io.specs.Openings.{Opening, disk_at, source_at}
use Rattle.outside_io.specs.declared.disks.Disk.{Ghosts as Disks}
use Rattle.outside_io.specs.declared.sources.Source.{Ghosts as Sources}
use Rattle.rail_types.specs.declared.tracks.Network.{Network}
use Rattle.rail_types.specs.declared.trains.Train.{Train}
use Rattle.command_files.specs.train.Trains.{AreTrains}
use Rattle.check_command.specs.Checks.{TellsProofs}
use Rattle.check_command.specs.Files.{ProofFileStep}
use Rattle.check_command.specs.declared.journals.Parts.{Parts}

-- what the texts of proofs may name
abbrev pub names_of : NetworkFile → List Train → Names
names_of network trains = record { railway = network.named; trains = trains }

-- the file of a network without names, which its journal does not tell
abbrev pub plain_of : NetworkFile → NetworkFile
plain_of network = record {
  named = record { network = network.named.network; stops = []; blocks = []; zones = [] };
  digest = network.digest;
}

-- the file of proofs is read, and what its bytes come to is told
abbrev pub ReadsProofs : {Src Snk Dsk : Type 0} → Sources Src → List ℕ → Names → Register
    → Scene Src Snk Dsk → Scene Src Snk Dsk → Result (List ℕ) Refusal → Type 0
ReadsProofs source proof known history old new result =
    Follows (ProofFileStep source proof)
    (λ (bytes : Vec ℕ Global).
    Tells (TellsProofs known history.timetable history.entries bytes.items)) old new result

-- the journal is read, and then the proofs
abbrev pub ReadsJournal : {Src Snk Dsk : Type 0} → Sources Src → Disks Dsk → List ℕ → List ℕ
    → NetworkFile → List Train → BaseFile → Scene Src Snk Dsk → Scene Src Snk Dsk
    → Result (List ℕ) Refusal → Type 0
ReadsJournal source disk journal proof network trains base old new result =
    Follows (JournalStep disk (plain_of network) base journal)
    (λ (history : Register). ReadsProofs source proof (names_of network trains) history)
    old new result

-- the base timetable is read on the zones of the network, and then the journal of both
abbrev pub ReadsBase : {Src Snk Dsk : Type 0} → Sources Src → Disks Dsk → List ℕ → List ℕ
    → List ℕ → NetworkFile → List Train → Scene Src Snk Dsk → Scene Src Snk Dsk
    → Result (List ℕ) Refusal → Type 0
ReadsBase source disk base journal proof network trains old new result =
    Follows (BaseStep source network.named.network.zones base)
    (λ (file : BaseFile). ReadsJournal source disk journal proof network trains file)
    old new result

-- the trains are read, and then the base timetable
abbrev pub ReadsTrains : {Src Snk Dsk : Type 0} → Sources Src → Disks Dsk → List ℕ → List ℕ
    → List ℕ → List ℕ → NetworkFile → Scene Src Snk Dsk → Scene Src Snk Dsk
    → Result (List ℕ) Refusal → Type 0
ReadsTrains source disk trains base journal proof network old new result =
    Follows (TrainStep source trains)
    (λ (read : List Train). ReadsBase source disk base journal proof network read)
    old new result

-- the network is read, and then the trains
abbrev pub ReadsNetwork : {Src Snk Dsk : Type 0} → Sources Src → Disks Dsk → List ℕ → List ℕ
    → List ℕ → List ℕ → List ℕ → Scene Src Snk Dsk → Scene Src Snk Dsk
    → Result (List ℕ) Refusal → Type 0
ReadsNetwork source disk network trains base journal proof old new result =
    Follows (NetworkStep source network)
    (λ (file : NetworkFile). ReadsTrains source disk trains base journal proof file)
    old new result

-- the opening calls of `check`, in order
abbrev pub check_calls : List ℕ → List ℕ → List ℕ → List ℕ → List ℕ → List Opening
check_calls network trains base journal proof =
    source_at network ∷ source_at trains ∷ source_at base ∷ disk_at journal ∷ source_at proof ∷ []

-- *inside*: what is known of files that were read
pub record AreRead (network : NetworkFile) (trains : List Train) : Type 0 where
  pub named : IsNamed network.named
  pub trains_are : AreTrains trains

pub record IsBaseRead (network : NetworkFile) (trains : List Train) (base : BaseFile) : Type 0 where
  pub files : AreRead network trains
  pub sound : IsBaseOn network.named.network.zones base.base

-- *inside*: what the texts of proofs may name, by a network and the names of its parts
abbrev pub named_by : Network → Parts → Names
named_by network parts = record {
  railway = record {
    network = network;
    stops = parts.stops;
    blocks = parts.blocks;
    zones = parts.zones;
  };
  trains = parts.trains;
}
