-- The run of `check`.
use Rattle.std.specs.Prelude.{◌≡◌, ◌⊎◌, ℕ, List, Vec, Result, Ok, Err}
use Rattle.std.specs.Global.{Global}
use Rattle.command_files.specs.Files.{BaseStep, NetworkStep, TrainStep}
use Rattle.command_files.specs.declared.bases.BaseFile.{BaseFile}
use Rattle.command_files.specs.declared.networks.NetworkFile.{NetworkFile}
use Rattle.command_reports.specs.Reports.{TellsRefusal}
use Rattle.command_reports.specs.Works.{KeepsTo}
use Rattle.command_reports.specs.declared.refusals.Refusal.{Refusal}
use Rattle.command_reports.specs.declared.exit_status.Status.{Status}
use Rattle.command_reports.specs.declared.exit_status.Status.TheVariants.{Done, Report}
use Rattle.command_reports.specs.Reading.{GaveTooMuch}
use Rattle.command_reports.specs.Scenes.{ChangesOnlyReport, Scene}
use Rattle.command_reports.specs.Writing.{ReportSays}
use Rattle.command_reports.specs.declared.file_rounds.writing.OutFault.{OutFault}
use Rattle.path_recover.specs.history.Legal.{Register}
use Rattle.print_commands.specs.Journals.{JournalStep}
use Rattle.outside_io.specs.Places.{Replaces}
use Rattle.outside_io.specs.declared.disks.Disk.{Ghosts as Disks}
use Rattle.outside_io.specs.declared.sinks.Sink.{Ghosts as Sinks}
use Rattle.outside_io.specs.declared.sources.Source.{Ghosts as Sources}
use Rattle.proof_texts.specs.declared.reading.TheConstants.{MAX_PROOF_FILE_BYTES}
use Rattle.rail_types.specs.declared.trains.Train.{Train}
use Rattle.check_command.specs.Checks.{HasDoubt, IsDone}
use Rattle.check_command.specs.Files.{ProofFileStep}
use Rattle.check_command.specs.Works.{check_calls, names_of, plain_of, ReadsNetwork}

-- how the report of the proofs ended: taken whole, or not
abbrev pub EndsReport : Result (Unit {0}) OutFault → Status → Type 0
EndsReport (Ok _) status = status ≡ Done
EndsReport (Err fault) status = status ≡ Report

-- the line was reported, and the status is Done; or Report where the report failed
pub record ReportsLine {Src Snk Dsk : Type 0} (sink : Sinks Snk) (line : List ℕ)
    (old new : Scene Src Snk Dsk) (status : Status) : Type 0 where
  pub written : Result (Unit {0}) OutFault
  pub says : ReportSays sink line old new written
  pub only : ChangesOnlyReport old new
  pub ends : EndsReport written status

-- what is reported at the end: how many proofs hold, or what refused
abbrev pub EndsRun : {Src Snk Dsk : Type 0} → Sinks Snk → Scene Src Snk Dsk → Scene Src Snk Dsk
    → Result (List ℕ) Refusal → Status → Type 0
EndsRun sink old new (Ok line) status = ReportsLine sink line old new status
EndsRun sink old new (Err refusal) status = TellsRefusal sink refusal old new status

-- the names that `check` is given: those of a network's file, a train file, a base timetable's, a
-- journal and a file of proofs
pub record CheckNames : Type 0 where
  pub network : List ℕ
  pub trains : List ℕ
  pub base : List ℕ
  pub journal : List ℕ
  pub proof : List ℕ

-- these, named
abbrev pub check_names : (network trains base journal proof : List ℕ) → CheckNames
check_names network trains base journal proof = record {
  network = network;
  trains = trains;
  base = base;
  journal = journal;
  proof = proof;
}

-- The files were read, then the journal and the proofs, and this was reported: in this order, each
-- name opened once, and all put back.
pub record RunsCheck {Src Snk Dsk : Type 0} (source : Sources Src) (sink : Sinks Snk)
    (disk : Disks Dsk) (names : CheckNames)
    (old new : Scene Src Snk Dsk) (status : Status) : Type 0 where
  pub between : Scene Src Snk Dsk
  pub outcome : Result (List ℕ) Refusal
  pub works : ReadsNetwork source disk names.network names.trains names.base names.journal
      names.proof old between outcome
  pub keeps : KeepsTo
      (check_calls names.network names.trains names.base names.journal names.proof)
      old between outcome
  pub ends : EndsRun sink between new outcome status

-- the files and the journal were read, each as it stood then
pub record HasRead {Src Snk Dsk : Type 0} (source : Sources Src) (disk : Disks Dsk)
    (network trains base journal : List ℕ) (old new : Scene Src Snk Dsk) : Type 0 where
  pub network_file : NetworkFile
  pub train_list : List Train
  pub base_file : BaseFile
  pub history : Register
  pub first : Scene Src Snk Dsk
  pub second : Scene Src Snk Dsk
  pub third : Scene Src Snk Dsk
  pub read_network : NetworkStep source network old first (Ok network_file)
  pub read_trains : TrainStep source trains first second (Ok train_list)
  pub read_base :
      BaseStep source network_file.named.network.zones base second third (Ok base_file)
  pub read_journal :
      JournalStep disk (plain_of network_file) base_file journal third new (Ok history)

-- the files, the journal and the proofs were read, each as it stood then
pub record HasReadAll {Src Snk Dsk : Type 0} (source : Sources Src) (disk : Disks Dsk)
    (network trains base journal proof : List ℕ) (old new : Scene Src Snk Dsk) : Type 0 where
  pub fourth : Scene Src Snk Dsk
  pub files : HasRead source disk network trains base journal old fourth
  pub bytes : Vec ℕ Global
  pub read_proofs : ProofFileStep source proof fourth new (Ok bytes)

-- All was read, the proofs hold, and the line of their number was reported whole.
pub record IsChecked {Src Snk Dsk : Type 0} (source : Sources Src) (sink : Sinks Snk)
    (disk : Disks Dsk) (network trains base journal proof : List ℕ)
    (old new : Scene Src Snk Dsk) : Type 0 where
  pub between : Scene Src Snk Dsk
  pub read : HasReadAll source disk network trains base journal proof old between
  pub line : List ℕ
  pub done : IsDone (names_of read.files.network_file read.files.train_list)
      read.files.history.timetable read.files.history.entries read.bytes.items line
  pub told : ReportSays sink line between new (Ok tt)
  pub only : ChangesOnlyReport between new

-- all was read, and a proof does not hold
pub record IsDoubtful {Src Snk Dsk : Type 0} (source : Sources Src) (disk : Disks Dsk)
    (network trains base journal proof : List ℕ) (old : Scene Src Snk Dsk) : Type 0 where
  pub between : Scene Src Snk Dsk
  pub read : HasReadAll source disk network trains base journal proof old between
  pub line : List ℕ
  pub doubt : HasDoubt (names_of read.files.network_file read.files.train_list)
      read.files.history.timetable read.files.history.entries read.bytes.items line

-- the files and the journal were read, and the file of proofs has too many bytes
pub record HasTooMuch {Src Snk Dsk : Type 0} (source : Sources Src) (disk : Disks Dsk)
    (network trains base journal proof : List ℕ) (old : Scene Src Snk Dsk) : Type 0 where
  pub fourth : Scene Src Snk Dsk
  pub after : Scene Src Snk Dsk
  pub files : HasRead source disk network trains base journal old fourth
  pub more : Replaces (GaveTooMuch source MAX_PROOF_FILE_BYTES) (fourth.sources proof)
      (after.sources proof)

-- why the command's own no was answered
abbrev pub IsRefused : {Src Snk Dsk : Type 0} → Sources Src → Disks Dsk → List ℕ → List ℕ
    → List ℕ → List ℕ → List ℕ → Scene Src Snk Dsk → Type 0
IsRefused source disk network trains base journal proof old =
    IsDoubtful source disk network trains base journal proof old
    ⊎ HasTooMuch source disk network trains base journal proof old
