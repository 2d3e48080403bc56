-- The step of a command that writes a file.
use Rattle.std.specs.Prelude.{◌≡◌, ◌⊎◌, ℕ, List, codes, Result, Ok, Err}
use Rattle.command_reports.specs.declared.exit_status.Status.{Status}
use Rattle.command_reports.specs.declared.exit_status.Status.TheVariants.{Done, Opening, Report}
use Rattle.outside_io.specs.Faults.{Rose}
use Rattle.outside_io.specs.Openings.{sink_at}
use Rattle.outside_io.specs.Places.{Replaces, Untouched}
use Rattle.outside_io.specs.declared.sinks.Sink.{Ghosts}
use Rattle.command_reports.specs.Scenes.{ChangesOnlySink, IsReady, Opens, Scene}
use Rattle.command_reports.specs.Writing.{TookAll, TookPart}
use Rattle.command_reports.specs.Refusals.{IsTold, line_with}
use Rattle.command_reports.specs.declared.refusals.Refusal.{Refusal}

-- the file was opened, and took something
pub record Writes {Src Snk Dsk : Type 0} (Takes : Snk → Snk → Type 0) (name : List ℕ)
    (old new : Scene Src Snk Dsk) : Type 0 where
  pub opens : Opens (sink_at name) old new
  pub took : Replaces Takes (old.sinks name) (new.sinks name)

-- the name could not be opened, and nothing was written
pub record IsNotWritten {Src Snk Dsk : Type 0} (name : List ℕ) (old new : Scene Src Snk Dsk)
    (refusal : Refusal) : Type 0 where
  pub unready : IsReady (old.standing (sink_at name)) → ⊥
  pub same : Untouched old.sinks new.sinks
  pub rose : Rose old.faults new.faults
  pub told : IsTold Opening (line_with (codes "open: ") name) refusal

-- what was written: all, or a part where writing failed, or nothing
abbrev pub OutSays : {Src Snk Dsk : Type 0} → Ghosts Snk → List ℕ → List ℕ → Scene Src Snk Dsk
    → Scene Src Snk Dsk → Result Status Refusal → Type 0
OutSays sink name bytes old new (Ok status) =
    ((status ≡ Done) × Writes (TookAll sink bytes) name old new)
    ⊎ ((status ≡ Report) × Writes (TookPart sink bytes) name old new)
OutSays sink name bytes old new (Err refusal) = IsNotWritten name old new refusal

-- the step that writes a file: it is opened once, and nothing else changes
pub record OutStep {Src Snk Dsk : Type 0} (sink : Ghosts Snk) (name bytes : List ℕ)
    (old new : Scene Src Snk Dsk) (result : Result Status Refusal) : Type 0 where
  pub says : OutSays sink name bytes old new result
  pub only : ChangesOnlySink name old new
