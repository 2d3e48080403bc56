-- The run of `batch`.
use Rattle.std.specs.Prelude.{◌≡◌, ℕ, List, Result, Ok, Err}
use Rattle.batch_command.specs.Ends.{report_text}
use Rattle.command_line.specs.declared.client_words.clients.ClientWord.{ClientWord}
use Rattle.command_files.specs.Files.{BaseStep, NetworkStep, TrainStep}
use Rattle.command_files.specs.declared.bases.BaseFile.{BaseFile}
use Rattle.command_files.specs.declared.networks.NetworkFile.{NetworkFile}
use Rattle.command_reports.specs.Reports.{TellsRefusal}
use Rattle.command_reports.specs.Works.{KeepsTo}
use Rattle.command_reports.specs.declared.refusals.Refusal.{Refusal}
use Rattle.command_reports.specs.declared.exit_status.Status.{Status}
use Rattle.command_reports.specs.Scenes.{ChangesOnlyReport, Scene}
use Rattle.command_reports.specs.Writing.{ReportSays}
use Rattle.served_clients.specs.sessions.declared.sessions.Why.TheVariants.{Input}
use Rattle.batch_command.specs.LineLists.{IsWhole}
use Rattle.outside_io.specs.Places.{IsKeptAt}
use Rattle.outside_io.specs.declared.disks.Disk.{Ghosts as Disks}
use Rattle.outside_io.specs.declared.sinks.Sink.{Ghosts as Sinks}
use Rattle.outside_io.specs.declared.sources.Source.{Ghosts as Sources}
use Rattle.served_clients.specs.book.Ledgers.{Ledger}
use Rattle.rail_types.specs.declared.trains.Train.{Train}
use Rattle.served_clients.specs.Ends.{EndsSay}
use Rattle.served_clients.specs.declared.serve_reports.ends.Ends.{Ends}
use Rattle.served_clients.specs.Files.{files_of, known_by}
use Rattle.served_clients.specs.GivenNames.{GivenNames}
use Rattle.served_clients.specs.RunGhosts.{RunGhosts}
use Rattle.served_clients.specs.ServedJournals.{IsFound}
use Rattle.served_clients.specs.declared.served_journals.files.Files.{Files}
use Rattle.batch_command.specs.Asked.{IsFlaw}
use Rattle.batch_command.specs.GivenBatches.{Batch}
use Rattle.batch_command.specs.Journals.{Serves}
use Rattle.batch_command.specs.Works.{batch_calls, ReadsNetwork}

-- what is reported at the end: the ends of the batch, or what refused
abbrev pub EndsRun : {Src Snk Dsk : Type 0} → Sinks Snk → Scene Src Snk Dsk → Scene Src Snk Dsk
    → Result Ends Refusal → Status → Type 0
EndsRun sink old new (Ok ends) status = EndsSay sink ends old new status
EndsRun sink old new (Err refusal) status = TellsRefusal sink refusal old new status

-- The files were read, the journal was opened, the list was read and answered, and this was
-- reported: in this order, each name opened once, and all put back.
pub record RunsBatch {Src Snk Dsk L : Type 0} (ghosts : RunGhosts Src Snk Dsk L)
    (names : GivenNames)
    (batch : Batch L) (old new : Scene Src Snk Dsk) (status : Status) : Type 0 where
  pub between : Scene Src Snk Dsk
  pub outcome : Result Ends Refusal
  pub works : ReadsNetwork ghosts names batch old between outcome
  pub keeps : KeepsTo (batch_calls names batch.client) old between outcome
  pub ends : EndsRun ghosts.sink between new outcome status

-- the three files were read, each as it stood then
pub record HasRead {Src Snk Dsk : Type 0} (source : Sources Src) (names : GivenNames)
    (old new : Scene Src Snk Dsk) (files : Files) : Type 0 where
  pub network_file : NetworkFile
  pub train_list : List Train
  pub base_file : BaseFile
  pub first : Scene Src Snk Dsk
  pub second : Scene Src Snk Dsk
  pub read_network : NetworkStep source names.network old first (Ok network_file)
  pub read_trains : TrainStep source names.trains first second (Ok train_list)
  pub read_base :
      BaseStep source network_file.named.network.zones names.base second new (Ok base_file)
  pub files_are : files ≡ files_of network_file base_file train_list

-- All was done: the files were read, the journal was opened, the list was answered over it,
-- all replies were written in its order, and the lines of the batch, of each worker and of
-- each of its rules were reported.
pub record IsBatchDone {Src Snk Dsk L : Type 0} (ghosts : RunGhosts Src Snk Dsk L)
    (names : GivenNames)
    (batch : Batch L) (old new : Scene Src Snk Dsk) : Type 0 where
  pub third : Scene Src Snk Dsk
  pub fourth : Scene Src Snk Dsk
  pub files : Files
  pub read : HasRead ghosts.source names old third files
  pub ends : Ends
  pub serves : Serves ghosts files names.journal batch third fourth ends
  pub whole : serves.answers.answered.outcome.written.why ≡ Input
  pub told : ReportSays ghosts.sink (report_text ghosts.rule batch.client.client
      serves.answers.answered.outcome.written serves.answers.answered.outcome.worked)
      fourth new (Ok tt)
  pub only : ChangesOnlyReport fourth new

-- the files were read, the journal was opened, the list was read as a whole, and it has a flaw
pub record IsRefusedList {Src Snk Dsk : Type 0} (source : Sources Src) (disk : Disks Dsk)
    (names : GivenNames) (client : ClientWord) (workers : ℕ) (old : Scene Src Snk Dsk)
    : Type 0 where
  pub third : Scene Src Snk Dsk
  pub files : Files
  pub read : HasRead source names old third files
  pub before : Dsk
  pub found : Ledger Dsk
  pub kept : IsKeptAt (third.disks names.journal) before
  pub opened : IsFound disk files before found
  pub src : Src
  pub src' : Src
  pub given : IsKeptAt (third.sources client.input) src
  pub lines : List (List ℕ)
  pub list : IsWhole source src src' lines
  pub told : List ℕ
  pub flaw : IsFlaw (known_by files) client.client workers found.entries lines told
