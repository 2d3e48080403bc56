-- What a command reports at its end.
use Rattle.std.specs.Prelude.{◌≡◌, ℕ, List, Result, Ok, Err}
use Rattle.outside_io.specs.declared.sinks.Sink.{Ghosts}
use Rattle.command_reports.specs.declared.exit_status.Status.{Status}
use Rattle.command_reports.specs.Scenes.{ChangesOnlyReport, Scene}
use Rattle.command_reports.specs.Writing.{ReportSays}
use Rattle.command_reports.specs.declared.file_rounds.writing.OutFault.{OutFault}
use Rattle.command_reports.specs.Refusals.{line_of, status_of}
use Rattle.command_reports.specs.declared.refusals.Refusal.{Refusal}

-- the report gained this line, or a part of it where it failed, or nothing
-- where it could not be opened
pub record Reports {Src Snk Dsk : Type 0} (sink : Ghosts Snk) (line : List ℕ)
    (old new : Scene Src Snk Dsk) : Type 0 where
  pub result : Result (Unit {0}) OutFault
  pub says : ReportSays sink line old new result
  pub only : ChangesOnlyReport old new

-- the status is that of the refusal, and its line was reported
pub record TellsRefusal {Src Snk Dsk : Type 0} (sink : Ghosts Snk) (refusal : Refusal)
    (old new : Scene Src Snk Dsk) (status : Status) : Type 0 where
  pub status_is : status ≡ status_of refusal
  pub reports : Reports sink (line_of refusal) old new

-- what is reported of an outcome: a refusal, and of a status that was reached nothing
abbrev pub EndSays : {Src Snk Dsk : Type 0} → Ghosts Snk → Scene Src Snk Dsk → Scene Src Snk Dsk
    → Result Status Refusal → Status → Type 0
EndSays sink old new (Ok reached) status = (status ≡ reached) × (new ≡ old)
EndSays sink old new (Err refusal) status = TellsRefusal sink refusal old new status
