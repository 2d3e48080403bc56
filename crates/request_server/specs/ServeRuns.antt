-- The run of `serve`.
use Rattle.std.specs.Prelude.{◌≡◌, All, List, Result, Ok, Err}
use Rattle.command_files.specs.Files.{BaseStep, NetworkStep, TrainStep}
use Rattle.command_files.specs.declared.bases.BaseFile.{BaseFile}
use Rattle.command_files.specs.declared.networks.NetworkFile.{NetworkFile}
use Rattle.command_reports.specs.Reports.{TellsRefusal}
use Rattle.command_reports.specs.Works.{KeepsTo}
use Rattle.command_reports.specs.declared.refusals.Refusal.{Refusal}
use Rattle.command_reports.specs.declared.exit_status.Status.{Status}
use Rattle.command_reports.specs.Scenes.{ChangesOnlyReport, Scene}
use Rattle.command_reports.specs.Writing.{ReportSays}
use Rattle.line_sessions.specs.declared.sessions.Why.TheVariants.{Input}
use Rattle.outside_io.specs.declared.sinks.Sink.{Ghosts as Sinks}
use Rattle.rail_types.specs.declared.trains.Train.{Train}
use Rattle.served_clients.specs.Ends.{EndsSay, report_text}
use Rattle.served_clients.specs.declared.serve_reports.ends.Ends.{Ends}
use Rattle.request_server.specs.Works.{ReadsNetwork, serve_calls}
use Rattle.request_server.specs.Clienteles.{Clientele}
use Rattle.served_clients.specs.Files.{files_of}
use Rattle.served_clients.specs.GivenNames.{GivenNames}
use Rattle.served_clients.specs.RunGhosts.{RunGhosts}
use Rattle.request_server.specs.ServeJournals.{Serves}

-- what is reported at the end: the ends of the clients, or what refused
abbrev pub EndsRun : {Src Snk Dsk : Type 0} → Sinks Snk → Scene Src Snk Dsk → Scene Src Snk Dsk
    → Result Ends Refusal → Status → Type 0
EndsRun sink old new (Ok ends) status = EndsSay sink ends old new status
EndsRun sink old new (Err refusal) status = TellsRefusal sink refusal old new status

-- The files were read, the journal was opened, the clients were served, and this was reported: in
-- this order, each name opened once, and all put back.
pub record RunsServe {Src Snk Dsk L : Type 0} (ghosts : RunGhosts Src Snk Dsk L)
    (names : GivenNames)
    (clientele : Clientele L) (old new : Scene Src Snk Dsk) (status : Status) : Type 0 where
  pub between : Scene Src Snk Dsk
  pub outcome : Result Ends Refusal
  pub works : ReadsNetwork ghosts names clientele old between outcome
  pub keeps : KeepsTo (serve_calls names clientele.clients clientele.proofs) old between outcome
  pub ends : EndsRun ghosts.sink between new outcome status

-- All was done: the files were read, the journal was opened, the clients were served over it, the
-- input of each was read to its end, and a line for each and for each of its rules was reported.
pub record IsServed {Src Snk Dsk L : Type 0} (ghosts : RunGhosts Src Snk Dsk L) (names : GivenNames)
    (clientele : Clientele L) (old new : Scene Src Snk Dsk) : Type 0 where
  pub network_file : NetworkFile
  pub base_file : BaseFile
  pub train_list : List Train
  pub first : Scene Src Snk Dsk
  pub second : Scene Src Snk Dsk
  pub third : Scene Src Snk Dsk
  pub fourth : Scene Src Snk Dsk
  pub read_network : NetworkStep ghosts.source names.network old first (Ok network_file)
  pub read_base :
      BaseStep ghosts.source network_file.named.network.zones names.base first second (Ok base_file)
  pub read_trains : TrainStep ghosts.source names.trains second third (Ok train_list)
  pub ends : Ends
  pub serves : Serves ghosts (files_of network_file base_file train_list) names.journal clientele
      third fourth ends
  pub inputs : All (λ session. session.ended.why ≡ Input) serves.serving.sessions
  pub told : ReportSays ghosts.sink (report_text ghosts.rule serves.serving.sessions)
      fourth new (Ok tt)
  pub only : ChangesOnlyReport fourth new
