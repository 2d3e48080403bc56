-- The work of `serve`: the network, the base timetable and the trains are read,
-- and then clients are served.
use Rattle.std.specs.Prelude.{List, ◌∷◌, Result}
use Rattle.request_server.specs.PlannedClients.{client_calls}
use Rattle.command_line.specs.declared.client_words.clients.ClientWord.{ClientWord}
use Rattle.command_line.specs.declared.proof_words.proofs.ProofWord.{ProofWord}
use Rattle.command_files.specs.Files.{BaseStep, NetworkStep, TrainStep}
use Rattle.command_files.specs.declared.bases.BaseFile.{BaseFile}
use Rattle.command_files.specs.declared.networks.NetworkFile.{NetworkFile}
use Rattle.command_reports.specs.Works.{Follows}
use Rattle.command_reports.specs.declared.refusals.Refusal.{Refusal}
use Rattle.command_reports.specs.Scenes.{Scene}
use Rattle.outside_io.specs.Openings.{Opening, source_at, disk_at}
use Rattle.rail_types.specs.declared.trains.Train.{Train}
use Rattle.served_clients.specs.declared.serve_reports.ends.Ends.{Ends}
use Rattle.request_server.specs.ServeJournals.{ServeStep}
use Rattle.served_clients.specs.Files.{files_of}
use Rattle.request_server.specs.Clienteles.{Clientele}
use Rattle.served_clients.specs.GivenNames.{GivenNames}
use Rattle.served_clients.specs.RunGhosts.{RunGhosts}

-- the trains are read, and then clients are served
abbrev pub ReadsTrains : {Src Snk Dsk L : Type 0} → RunGhosts Src Snk Dsk L → GivenNames
    → Clientele L
    → NetworkFile → BaseFile → Scene Src Snk Dsk → Scene Src Snk Dsk → Result Ends Refusal → Type 0
ReadsTrains ghosts names clientele network base old new result =
    Follows (TrainStep ghosts.source names.trains)
    (λ (read : List Train).
    ServeStep ghosts (files_of network base read) names.journal clientele) old new result

-- the base timetable is read on the zones of the network, and then the trains
abbrev pub ReadsBase : {Src Snk Dsk L : Type 0} → RunGhosts Src Snk Dsk L → GivenNames → Clientele L
    → NetworkFile → Scene Src Snk Dsk → Scene Src Snk Dsk → Result Ends Refusal → Type 0
ReadsBase ghosts names clientele network old new result =
    Follows (BaseStep ghosts.source network.named.network.zones names.base)
    (λ (file : BaseFile). ReadsTrains ghosts names clientele network file) old new result

-- the network is read, and then the base timetable
abbrev pub ReadsNetwork : {Src Snk Dsk L : Type 0} → RunGhosts Src Snk Dsk L → GivenNames
    → Clientele L → Scene Src Snk Dsk → Scene Src Snk Dsk → Result Ends Refusal → Type 0
ReadsNetwork ghosts names clientele old new result =
    Follows (NetworkStep ghosts.source names.network)
    (λ (file : NetworkFile). ReadsBase ghosts names clientele file) old new result

-- the opening calls of `serve`, in order
abbrev pub serve_calls : GivenNames → List ClientWord → List ProofWord → List Opening
serve_calls names clients proofs =
    source_at names.network ∷ source_at names.base ∷ source_at names.trains
    ∷ disk_at names.journal ∷ client_calls clients proofs
