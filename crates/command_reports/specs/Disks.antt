-- A disk that a command opens, uses and puts back.
use Rattle.std.specs.Prelude.{◌≡◌, ◌≢◌, ℕ, List, [], ◌∷◌, codes}
use Rattle.outside_io.specs.Faults.{Rose}
use Rattle.outside_io.specs.Openings.{disk_at, Undisturbed}
use Rattle.outside_io.specs.Openings.{Opens as CallsOf}
use Rattle.outside_io.specs.Places.{Replaces, Untouched}
use Rattle.command_reports.specs.declared.exit_status.Status.TheVariants.{Opening}
use Rattle.command_reports.specs.Scenes.{IsReady, Scene}
use Rattle.command_reports.specs.Refusals.{IsTold, line_with}
use Rattle.command_reports.specs.declared.refusals.Refusal.{Refusal}

-- one disk was opened and put back, and nothing changed but what stands under its name
pub record ChangesOnlyDisk {Src Snk Dsk : Type 0} (name : List ℕ) (old new : Scene Src Snk Dsk)
    : Type 0 where
  pub standing : Undisturbed old.standing new.standing
  pub opened : CallsOf (disk_at name ∷ []) old.opened new.opened
  pub others : (other : List ℕ) → other ≢ name → new.disks other ≡ old.disks other
  pub sources : Untouched old.sources new.sources
  pub sinks : Untouched old.sinks new.sinks
  pub report : new.report ≡ old.report

-- the name could not be opened
pub record IsNotOpened {Src Snk Dsk : Type 0} (name : List ℕ) (old new : Scene Src Snk Dsk)
    (refusal : Refusal) : Type 0 where
  pub unready : IsReady (old.standing (disk_at name)) → ⊥
  pub same : Untouched old.disks new.disks
  pub rose : Rose old.faults new.faults
  pub told : IsTold Opening (line_with (codes "open: ") name) refusal

-- two disks were replaced, each by one that is related to both; where the outside
-- doesn't tell one, nothing is said
abbrev pub BothReplaced : {Src Snk Dsk : Type 0} → (Dsk → Dsk → Dsk → Dsk → Type 0) → List ℕ
    → List ℕ → Scene Src Snk Dsk → Scene Src Snk Dsk → Type 0
BothReplaced R name other old new =
    Replaces (λ before after. Replaces (R before after) (old.disks other) (new.disks other))
    (old.disks name) (new.disks name)
