-- Steps over files keep to their opening calls.
use Rattle.std.proofs.Common.{◌≡◌, ℕ, List, [], ◌∷◌, Result, Ok, Err, inl, inr, sym, ap}
use Rattle.outside_io.specs.Openings.{source_at, sink_at}
use Rattle.outside_io.specs.Places.{Untouched}
use Rattle.outside_io.proofs.Names.{name_cases}
use Rattle.outside_io.specs.declared.sinks.Sink.{Ghosts as Sinks}
use Rattle.outside_io.specs.declared.sources.Source.{Ghosts as Sources}
use Rattle.command_reports.specs.declared.exit_status.Status.{Status}
use Rattle.command_reports.specs.Scenes.{ChangesOnlySink, ChangesOnlySource, Scene}
use Rattle.command_reports.specs.Works.{Keeps, KeepsTo}
use Rattle.command_reports.specs.declared.refusals.Refusal.{Refusal}
use Rattle.command_files.specs.Outs.{OutStep}
use Rattle.command_files.specs.Steps.{FileStep}
use Rattle.command_files.specs.declared.files.FileKind.{FileKind}

pub one_source : {Src Snk Dsk : Type 0} (name : List ℕ) (old new : Scene Src Snk Dsk) → ChangesOnlySource name old new → Keeps (source_at name ∷ []) old new
one_source name old new only = record {
  standing = only.standing;
  sources = λ other misses. only.others other (λ same. misses.0 (ap source_at (sym same)));
  sinks = λ other misses. only.sinks other;
  disks = λ other misses. only.disks other;
  report = only.report;
}

pub one_sink : {Src Snk Dsk : Type 0} (name : List ℕ) (old new : Scene Src Snk Dsk) → ChangesOnlySink name old new → Keeps (sink_at name ∷ []) old new
one_sink name old new only = record {
  standing = only.standing;
  sources = λ other misses. only.sources other;
  sinks = λ other misses. only.others other (λ same. misses.0 (ap sink_at (sym same)));
  disks = λ other misses. only.disks other;
  report = only.report;
}

pub file_keeps : {Src Snk Dsk A : Type 0} (kind : FileKind) (source : Sources Src) (name : List ℕ) (Means : List ℕ → A → Type 0) (HasFault : List ℕ → List ℕ → Type 0)
    → (old new : Scene Src Snk Dsk) (result : Result A Refusal) → FileStep kind source name Means HasFault old new result → KeepsTo (source_at name ∷ []) old new result
file_keeps kind source name Means HasFault old new (Ok value) step = record { keeps = one_source name old new step.only; opens = step.only.opened }
file_keeps kind source name Means HasFault old new (Err refusal) step = record { keeps = one_source name old new step.only; opens = (1, step.only.opened) }

pub out_keeps : {Src Snk Dsk : Type 0} (sink : Sinks Snk) (name bytes : List ℕ) → (old new : Scene Src Snk Dsk) (result : Result Status Refusal) → OutStep sink name bytes old new result → KeepsTo (sink_at name ∷ []) old new result
out_keeps sink name bytes old new (Ok status) step = record { keeps = one_sink name old new step.only; opens = step.only.opened }
out_keeps sink name bytes old new (Err refusal) step = record { keeps = one_sink name old new step.only; opens = (1, step.only.opened) }

-- one sink was opened, and stands as it stood
pub untouched_sinks : {Src Snk Dsk : Type 0} (name : List ℕ) (old new : Scene Src Snk Dsk) → ChangesOnlySink name old new → new.sinks name ≡ old.sinks name → Untouched old.sinks new.sinks
untouched_sinks name old new only same other = elim (name_cases other name) [
  | inl is ↦ rw is same
  | inr differs ↦ only.others other differs
]
