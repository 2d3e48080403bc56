-- Streams that were not opened.
use Rattle.std.specs.Prelude.{◌≡◌, ◌⊎◌, ℕ, List, [], ◌∷◌, ◌++◌, All, codes, take}
use Rattle.outside_io.specs.Faults.{Rose}
use Rattle.outside_io.specs.Openings.{Opening, source_at, sink_at, the_report, disk_at, Standing}
use Rattle.outside_io.specs.Openings.{Opens as CallsOf}
use Rattle.command_reports.specs.declared.exit_status.Status.TheVariants.{Opening as not_opened}
use Rattle.command_reports.specs.Scenes.{IsReady, IsShut, Scene}
use Rattle.command_reports.specs.Refusals.{IsTold, line_with}
use Rattle.command_reports.specs.declared.refusals.Refusal.{Refusal}
use Rattle.command_reports.specs.declared.refusals.Refusal.TheVariants.{Memory}
use Rattle.served_clients.specs.Lending.{IsAsBefore}

-- the name that a call opens, and none for the report
abbrev pub name_at : Opening → List ℕ
name_at (source_at name) = name
name_at (sink_at name) = name
name_at the_report = []
name_at (disk_at name) = name

-- the call is told not to fail
abbrev pub IsOpen : (Opening → Standing) → Opening → Type 0
IsOpen standing call = IsShut (standing call) → ⊥

-- these opening calls were made, in this order, and no other
abbrev pub AreMade : {Src Snk Dsk : Type 0} → Scene Src Snk Dsk → Scene Src Snk Dsk
    → List Opening → Type 0
AreMade old new calls = CallsOf calls old.opened new.opened

-- Of these calls the first ones succeeded, and then one failed, behind which none was made: it is
-- told not to succeed, a fault was counted, and its name is reported.
pub record CannotOpen (calls : List Opening) (made : List Opening → Type 0)
    (standing : Opening → Standing) (faults faults' : ℕ) (refusal : Refusal) : Type 0 where
  pub before : List Opening
  pub call : Opening
  pub behind : List Opening
  pub calls_are : calls ≡ before ++ call ∷ behind
  pub opened : All (IsOpen standing) before
  pub no_more : made (before ++ call ∷ [])
  pub unready : IsReady (standing call) → ⊥
  pub rose : Rose faults faults'
  pub told : IsTold not_opened (line_with (codes "open: ") (name_at call)) refusal

-- one of the calls failed, or memory was wanted
abbrev pub WhyStopped : List Opening → (List Opening → Type 0) → (Opening → Standing) → ℕ → ℕ
    → Refusal → Type 0
WhyStopped calls made standing faults faults' refusal =
    CannotOpen calls made standing faults faults' refusal ⊎ (refusal ≡ Memory)

-- Not all of these calls succeeded, or memory was wanted: the first so many of them were made,
-- and all is as it was before.
pub record IsStopped {Src Snk Dsk : Type 0} (calls : List Opening)
    (old new : Scene Src Snk Dsk) (refusal : Refusal) : Type 0 where
  pub count : ℕ
  pub opened : AreMade old new (take count calls)
  pub as_before : IsAsBefore old new
  pub why : WhyStopped calls (AreMade old new) old.standing old.faults new.faults refusal
