-- The steps of `batch`, and what a run of it leaves alone.
use Rattle.std.proofs.Common.{◌∙◌, List, [], ◌∷◌, Result, Ok, Err}
use Rattle.outside_io.specs.Openings.{source_at, disk_at, Undisturbed}
use Rattle.command_reports.specs.declared.exit_status.Status.{Status}
use Rattle.command_reports.specs.Scenes.{Scene}
use Rattle.command_reports.specs.Works.{KeepsTo}
use Rattle.command_reports.specs.declared.refusals.Refusal.{Refusal}
use Rattle.command_reports.proofs.Steps.{follows_keep}
use Rattle.command_files.specs.Files.{BaseStep, HasBaseFault, HasNetworkFault, HasTrainFault, IsBaseFile, IsNetworkFile, IsTrainFile, NetworkStep, TrainStep}
use Rattle.command_files.specs.declared.bases.BaseFile.{BaseFile}
use Rattle.command_files.specs.declared.files.FileKind.TheVariants as kind
use Rattle.command_files.specs.declared.networks.NetworkFile.{NetworkFile}
use Rattle.command_files.proofs.Kept.{file_keeps}
use Rattle.served_clients.specs.StreamClients.{pair_calls}
use Rattle.rail_types.specs.declared.trains.Train.{Train}
use Rattle.served_clients.specs.declared.serve_reports.ends.Ends.{Ends}
use Rattle.served_clients.specs.Files.{files_of}
use Rattle.served_clients.specs.GivenNames.{GivenNames}
use Rattle.served_clients.specs.RunGhosts.{RunGhosts}
use Rattle.batch_command.specs.GivenBatches.{Batch}
use Rattle.batch_command.specs.Journals.{BatchStep}
use Rattle.batch_command.specs.Runs.{EndsRun, RunsBatch}
use Rattle.batch_command.specs.Works.{batch_calls, ReadsBase, ReadsNetwork, ReadsTrains}

module _ {Src Snk Dsk L : Type 0} (ghosts : RunGhosts Src Snk Dsk L) (names : GivenNames) (batch : Batch L) where
  base_keeps : (network : NetworkFile) (trains : List Train) (old new : Scene Src Snk Dsk) (result : Result Ends Refusal) → ReadsBase ghosts names batch network trains old new result
      → KeepsTo (source_at names.base ∷ disk_at names.journal ∷ pair_calls batch.client) old new result
  base_keeps network trains old new result works =
      follows_keep (source_at names.base ∷ []) (disk_at names.journal ∷ pair_calls batch.client) (BaseStep ghosts.source network.named.network.zones names.base) (λ (file : BaseFile). BatchStep ghosts (files_of network file trains) names.journal batch)
      (file_keeps kind.Base ghosts.source names.base (IsBaseFile network.named.network.zones) (HasBaseFault network.named.network.zones)) (λ file before after ended step. step.only) old new result works

  trains_keep : (network : NetworkFile) (old new : Scene Src Snk Dsk) (result : Result Ends Refusal) → ReadsTrains ghosts names batch network old new result
      → KeepsTo (source_at names.trains ∷ source_at names.base ∷ disk_at names.journal ∷ pair_calls batch.client) old new result
  trains_keep network old new result works =
      follows_keep (source_at names.trains ∷ []) (source_at names.base ∷ disk_at names.journal ∷ pair_calls batch.client) (TrainStep ghosts.source names.trains) (λ (read : List Train). ReadsBase ghosts names batch network read)
      (file_keeps kind.Trains ghosts.source names.trains IsTrainFile HasTrainFault) (λ read. base_keeps network read) old new result works

  -- the work of `batch` keeps to its opening calls
  pub works_keep : (old new : Scene Src Snk Dsk) (result : Result Ends Refusal) → ReadsNetwork ghosts names batch old new result
      → KeepsTo (batch_calls names batch.client) old new result
  works_keep old new result works =
      follows_keep (source_at names.network ∷ []) (source_at names.trains ∷ source_at names.base ∷ disk_at names.journal ∷ pair_calls batch.client) (NetworkStep ghosts.source names.network) (λ (file : NetworkFile). ReadsTrains ghosts names batch file)
      (file_keeps kind.Network ghosts.source names.network IsNetworkFile HasNetworkFault) (λ file. trains_keep file) old new result works

  ends_back : (old new : Scene Src Snk Dsk) (outcome : Result Ends Refusal) (status : Status) → EndsRun ghosts.sink old new outcome status → Undisturbed old.standing new.standing
  ends_back old new (Ok ends) status said = said.only.standing
  ends_back old new (Err refusal) status said = said.reports.only.standing

  -- whatever came, all that was opened is put back
  pub batch_back : (old new : Scene Src Snk Dsk) (status : Status) → RunsBatch ghosts names batch old new status → Undisturbed old.standing new.standing
  batch_back old new status runs = λ call. ends_back runs.between new runs.outcome status runs.ends call ∙ runs.keeps.keeps.standing call
