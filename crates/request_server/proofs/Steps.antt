-- The steps of `serve`, and what a run of it leaves alone.
use Rattle.std.proofs.Common.{◌∙◌, List, [], ◌∷◌, Result, Ok, Err}
use Rattle.outside_io.specs.Openings.{Opening, source_at, disk_at, Undisturbed}
use Rattle.command_reports.specs.declared.exit_status.Status.{Status}
use Rattle.command_reports.specs.Scenes.{Scene}
use Rattle.command_reports.specs.Works.{KeepsTo}
use Rattle.command_reports.specs.declared.refusals.Refusal.{Refusal}
use Rattle.command_reports.proofs.Steps.{follows_keep}
use Rattle.command_files.specs.Files.{BaseStep, HasBaseFault, HasNetworkFault, HasTrainFault, IsBaseFile, IsNetworkFile, IsTrainFile, NetworkStep, TrainStep}
use Rattle.command_files.specs.declared.bases.BaseFile.{BaseFile}
use Rattle.command_files.specs.declared.files.FileKind.TheVariants as kind
use Rattle.command_files.specs.declared.networks.NetworkFile.{NetworkFile}
use Rattle.command_files.proofs.Kept.{file_keeps}
use Rattle.request_server.specs.PlannedClients.{client_calls}
use Rattle.rail_types.specs.declared.trains.Train.{Train}
use Rattle.served_clients.specs.declared.serve_reports.ends.Ends.{Ends}
use Rattle.request_server.specs.ServeJournals.{ServeStep}
use Rattle.request_server.specs.ServeRuns.{EndsRun, RunsServe}
use Rattle.request_server.specs.Works.{ReadsBase, ReadsNetwork, ReadsTrains, serve_calls}
use Rattle.served_clients.specs.Files.{files_of}
use Rattle.request_server.specs.Clienteles.{Clientele}
use Rattle.served_clients.specs.GivenNames.{GivenNames}
use Rattle.served_clients.specs.RunGhosts.{RunGhosts}

module _ {Src Snk Dsk L : Type 0} (ghosts : RunGhosts Src Snk Dsk L) (names : GivenNames) (clientele : Clientele L) where
  -- the opening calls behind that of the journal
  abbrev calls : List Opening
  calls = client_calls clientele.clients clientele.proofs

  trains_keep : (network : NetworkFile) (base : BaseFile) (old new : Scene Src Snk Dsk) (result : Result Ends Refusal) → ReadsTrains ghosts names clientele network base old new result
      → KeepsTo (source_at names.trains ∷ disk_at names.journal ∷ calls) old new result
  trains_keep network base old new result works =
      follows_keep (source_at names.trains ∷ []) (disk_at names.journal ∷ calls) (TrainStep ghosts.source names.trains) (λ (read : List Train). ServeStep ghosts (files_of network base read) names.journal clientele)
      (file_keeps kind.Trains ghosts.source names.trains IsTrainFile HasTrainFault) (λ read before after ended step. step.only) old new result works

  base_keeps : (network : NetworkFile) (old new : Scene Src Snk Dsk) (result : Result Ends Refusal) → ReadsBase ghosts names clientele network old new result
      → KeepsTo (source_at names.base ∷ source_at names.trains ∷ disk_at names.journal ∷ calls) old new result
  base_keeps network old new result works =
      follows_keep (source_at names.base ∷ []) (source_at names.trains ∷ disk_at names.journal ∷ calls) (BaseStep ghosts.source network.named.network.zones names.base) (λ (file : BaseFile). ReadsTrains ghosts names clientele network file)
      (file_keeps kind.Base ghosts.source names.base (IsBaseFile network.named.network.zones) (HasBaseFault network.named.network.zones)) (λ file. trains_keep network file) old new result works

  -- the work of `serve` keeps to its opening calls
  pub works_keep : (old new : Scene Src Snk Dsk) (result : Result Ends Refusal) → ReadsNetwork ghosts names clientele old new result
      → KeepsTo (serve_calls names clientele.clients clientele.proofs) old new result
  works_keep old new result works =
      follows_keep (source_at names.network ∷ []) (source_at names.base ∷ source_at names.trains ∷ disk_at names.journal ∷ calls) (NetworkStep ghosts.source names.network) (λ (file : NetworkFile). ReadsBase ghosts names clientele file)
      (file_keeps kind.Network ghosts.source names.network IsNetworkFile HasNetworkFault) (λ file. base_keeps file) old new result works

  ends_back : (old new : Scene Src Snk Dsk) (outcome : Result Ends Refusal) (status : Status) → EndsRun ghosts.sink old new outcome status → Undisturbed old.standing new.standing
  ends_back old new (Ok ends) status said = said.only.standing
  ends_back old new (Err refusal) status said = said.reports.only.standing

  -- whatever came, all that was opened is put back
  pub serve_back : (old new : Scene Src Snk Dsk) (status : Status) → RunsServe ghosts names clientele old new status → Undisturbed old.standing new.standing
  serve_back old new status runs = λ call. ends_back runs.between new runs.outcome status runs.ends call ∙ runs.keeps.keeps.standing call
