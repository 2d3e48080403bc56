-- The work of `demo`: the session is held in memory, and then its line is written.
use Rattle.std.specs.Prelude.{ℕ, List, [], ◌∷◌, Result}
use Rattle.outside_io.specs.Openings.{Opening, sink_at}
use Rattle.outside_io.specs.declared.sinks.Sink.{Ghosts as Sinks}
use Rattle.command_reports.specs.declared.exit_status.Status.{Status}
use Rattle.command_reports.specs.Scenes.{Scene}
use Rattle.command_reports.specs.Writing.{TookAll}
use Rattle.command_reports.specs.Works.{Follows, Makes}
use Rattle.command_reports.specs.declared.refusals.Refusal.{Refusal}
use Rattle.command_files.specs.Outs.{OutStep, Writes}
use Rattle.demo_command.specs.Sessions.{IsDemo}

-- the line of the demo was written whole
pub record IsShown {Src Snk Dsk : Type 0} (sink : Sinks Snk) (number : ℕ) (out : List ℕ)
    (old new : Scene Src Snk Dsk) : Type 0 where
  pub line : List ℕ
  pub demo : IsDemo number line
  pub wrote : Writes (TookAll sink line) out old new

-- the one opening call of `demo`
abbrev pub demo_calls : List ℕ → List Opening
demo_calls out = sink_at out ∷ []

-- the session is held, which leaves the outside alone, and its line is written
abbrev pub DemoWorks : {Src Snk Dsk : Type 0} → Sinks Snk → ℕ → List ℕ → Scene Src Snk Dsk
    → Scene Src Snk Dsk → Result Status Refusal → Type 0
DemoWorks sink number out old new result =
    Follows (Makes (IsDemo number)) (λ (line : List ℕ). OutStep sink out line) old new result
