-- What writing a file says.
use Rattle.std.specs.Prelude.{◌≡◌, ℕ, ◌<◌, List, length, take, Result, Ok, Err}
use Rattle.std.specs.Io.KnownBytes.{Appends}
use Rattle.outside_io.specs.Faults.{Rose}
use Rattle.outside_io.specs.Openings.{Opening, sink_at, the_report}
use Rattle.outside_io.specs.Places.{Place, Replaces}
use Rattle.outside_io.specs.Stops.{StopsAt}
use Rattle.outside_io.specs.declared.sinks.Sink.{Ghosts}
use Rattle.command_reports.specs.declared.file_rounds.writing.OutFault.{OutFault}
use Rattle.command_reports.specs.declared.file_rounds.writing.OutFault.TheVariants.{NotOpened}
use Rattle.command_reports.specs.declared.file_rounds.writing.OutFault.TheVariants.{Failed}
use Rattle.command_reports.specs.Scenes.{IsReady, Opens, Scene}

-- the sink gained these bytes, and had no fault
pub record TookAll {S : Type 0} (sink : Ghosts S) (bytes : List ℕ) (before after : S) : Type 0 where
  pub took : Appends (sink.held before) (sink.held after) bytes
  pub quiet : sink.faults after ≡ sink.faults before

-- the sink gained a proper part from the front of these bytes, and then failed
pub record TookPart {S : Type 0} (sink : Ghosts S) (bytes : List ℕ)
    (before after : S) : Type 0 where
  pub part : ℕ
  pub proper : part < length bytes
  pub stops : StopsAt sink.held sink.faults before after (take part bytes)

-- what a writing says of the sink at its place
abbrev pub SaysAt : {Src Snk Dsk : Type 0} → Ghosts Snk → Opening → List ℕ → Scene Src Snk Dsk
    → Scene Src Snk Dsk → Place Snk → Place Snk → Result (Unit {0}) OutFault → Type 0
SaysAt sink call bytes old new before after (Ok _) =
    Opens call old new × Replaces (TookAll sink bytes) before after
SaysAt sink call bytes old new before after (Err NotOpened) =
    (IsReady (old.standing call) → ⊥) × (after ≡ before) × Rose old.faults new.faults
SaysAt sink call bytes old new before after (Err Failed) =
    Opens call old new × Replaces (TookPart sink bytes) before after

-- what a writing says of the sink under a name
abbrev pub WriteSays : {Src Snk Dsk : Type 0} → Ghosts Snk → List ℕ → List ℕ → Scene Src Snk Dsk
    → Scene Src Snk Dsk → Result (Unit {0}) OutFault → Type 0
WriteSays sink name bytes old new result =
    SaysAt sink (sink_at name) bytes old new (old.sinks name) (new.sinks name) result

-- what a writing says of the report
abbrev pub ReportSays : {Src Snk Dsk : Type 0} → Ghosts Snk → List ℕ → Scene Src Snk Dsk
    → Scene Src Snk Dsk → Result (Unit {0}) OutFault → Type 0
ReportSays sink bytes old new result =
    SaysAt sink the_report bytes old new old.report new.report result
