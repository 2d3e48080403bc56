-- The work of `batch`: the network, the trains and the base timetable are read,
-- and then a list is answered.
use Rattle.std.specs.Prelude.{List, ◌∷◌, Result}
use Rattle.served_clients.specs.StreamClients.{pair_calls}
use Rattle.command_line.specs.declared.client_words.clients.ClientWord.{ClientWord}
use Rattle.command_files.specs.Files.{BaseStep, NetworkStep, TrainStep}
use Rattle.command_files.specs.declared.bases.BaseFile.{BaseFile}
use Rattle.command_files.specs.declared.networks.NetworkFile.{NetworkFile}
use Rattle.command_reports.specs.Works.{Follows}
use Rattle.command_reports.specs.declared.refusals.Refusal.{Refusal}
use Rattle.command_reports.specs.Scenes.{Scene}
use Rattle.outside_io.specs.Openings.{disk_at, Opening, source_at}
use Rattle.rail_types.specs.declared.trains.Train.{Train}
use Rattle.served_clients.specs.declared.serve_reports.ends.Ends.{Ends}
use Rattle.served_clients.specs.Files.{files_of}
use Rattle.served_clients.specs.GivenNames.{GivenNames}
use Rattle.served_clients.specs.RunGhosts.{RunGhosts}
use Rattle.batch_command.specs.GivenBatches.{Batch}
use Rattle.batch_command.specs.Journals.{BatchStep}

-- the base timetable is read on the zones of the network, and then the list is answered
abbrev pub ReadsBase : {Src Snk Dsk L : Type 0} → RunGhosts Src Snk Dsk L → GivenNames → Batch L
    → NetworkFile → List Train → Scene Src Snk Dsk → Scene Src Snk Dsk → Result Ends Refusal
    → Type 0
ReadsBase ghosts names batch network trains old new result =
    Follows (BaseStep ghosts.source network.named.network.zones names.base)
    (λ (file : BaseFile). BatchStep ghosts (files_of network file trains) names.journal batch)
    old new result

-- the trains are read, and then the base timetable
abbrev pub ReadsTrains : {Src Snk Dsk L : Type 0} → RunGhosts Src Snk Dsk L → GivenNames → Batch L
    → NetworkFile → Scene Src Snk Dsk → Scene Src Snk Dsk → Result Ends Refusal → Type 0
ReadsTrains ghosts names batch network old new result =
    Follows (TrainStep ghosts.source names.trains)
    (λ (read : List Train). ReadsBase ghosts names batch network read) old new result

-- the network is read, and then the trains
abbrev pub ReadsNetwork : {Src Snk Dsk L : Type 0} → RunGhosts Src Snk Dsk L → GivenNames → Batch L
    → Scene Src Snk Dsk → Scene Src Snk Dsk → Result Ends Refusal → Type 0
ReadsNetwork ghosts names batch old new result =
    Follows (NetworkStep ghosts.source names.network)
    (λ (file : NetworkFile). ReadsTrains ghosts names batch file) old new result

-- the opening calls of `batch`, in order
abbrev pub batch_calls : GivenNames → ClientWord → List Opening
batch_calls names client =
    source_at names.network ∷ source_at names.trains ∷ source_at names.base
    ∷ disk_at names.journal ∷ pair_calls client
