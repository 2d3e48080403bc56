-- How the work of a command is made of steps, and how it ends.
use Rattle.std.specs.Prelude.{◌≡◌, ◌≢◌, ◌⊎◌, ⊤, ℕ, List, [], ◌∷◌, ◌++◌, take, Result, Ok, Err}
use Rattle.outside_io.specs.Openings.{Opening, Opens as CallsOf, source_at, sink_at, disk_at}
use Rattle.outside_io.specs.Openings.{Undisturbed}
use Rattle.outside_io.specs.declared.sinks.Sink.{Ghosts}
use Rattle.command_reports.specs.declared.exit_status.Status.{Status}
use Rattle.command_reports.specs.Scenes.{Scene}
use Rattle.command_reports.specs.Reports.{EndSays}
use Rattle.command_reports.specs.declared.refusals.Refusal.{Refusal}
use Rattle.command_reports.specs.declared.refusals.Refusal.TheVariants.{Memory}

-- none of the calls is this one
abbrev pub Misses : Opening → List Opening → Type 0
Misses call [] = ⊤
Misses call (made ∷ calls) = (made ≢ call) × Misses call calls

-- all that was opened is put back, and nothing changed but under the names of these calls
pub record Keeps {Src Snk Dsk : Type 0} (calls : List Opening)
    (old new : Scene Src Snk Dsk) : Type 0 where
  pub standing : Undisturbed old.standing new.standing
  pub sources : (name : List ℕ) → Misses (source_at name) calls
      → new.sources name ≡ old.sources name
  pub sinks : (name : List ℕ) → Misses (sink_at name) calls → new.sinks name ≡ old.sinks name
  pub disks : (name : List ℕ) → Misses (disk_at name) calls → new.disks name ≡ old.disks name
  pub report : new.report ≡ old.report

-- these names were opened, each once, in this order, and no other; at a
-- refusal so many of the first
abbrev pub OpensInTurn : {Src Snk Dsk A : Type 0} → List Opening → Scene Src Snk Dsk
    → Scene Src Snk Dsk → Result A Refusal → Type 0
OpensInTurn calls old new (Ok done) = CallsOf calls old.opened new.opened
OpensInTurn calls old new (Err refusal) =
    (count : ℕ) × CallsOf (take count calls) old.opened new.opened

-- a step keeps to its opening calls
pub record KeepsTo {Src Snk Dsk A : Type 0} (calls : List Opening) (old new : Scene Src Snk Dsk)
    (result : Result A Refusal) : Type 0 where
  pub keeps : Keeps calls old new
  pub opens : OpensInTurn calls old new result

-- a step that leaves the outside alone: it made this, or wanted memory
abbrev pub Makes : {Src Snk Dsk A : Type 0} → (A → Type 0) → Scene Src Snk Dsk → Scene Src Snk Dsk
    → Result A Refusal → Type 0
Makes Is old new (Ok made) = (new ≡ old) × Is made
Makes Is old new (Err refusal) = (new ≡ old) × (refusal ≡ Memory)

-- the first step gave something, and the next one went on with it
pub record GoesOn {Src Snk Dsk A B : Type 0}
    (First : Scene Src Snk Dsk → Scene Src Snk Dsk → Result A Refusal → Type 0)
    (Next : A → Scene Src Snk Dsk → Scene Src Snk Dsk → Result B Refusal → Type 0)
    (old new : Scene Src Snk Dsk) (result : Result B Refusal) : Type 0 where
  pub between : Scene Src Snk Dsk
  pub given : A
  pub first : First old between (Ok given)
  pub next : Next given between new result

-- the first step refused, and nothing else was done
abbrev pub StopsAtOnce : {Src Snk Dsk A B : Type 0}
    → (Scene Src Snk Dsk → Scene Src Snk Dsk → Result A Refusal → Type 0)
    → Scene Src Snk Dsk → Scene Src Snk Dsk → Result B Refusal → Type 0
StopsAtOnce First old new (Ok given) = ⊥
StopsAtOnce First old new (Err refusal) = First old new (Err refusal)

-- one step, and then another with what the first gave, where it refused nothing
abbrev pub Follows : {Src Snk Dsk A B : Type 0}
    → (Scene Src Snk Dsk → Scene Src Snk Dsk → Result A Refusal → Type 0)
    → (A → Scene Src Snk Dsk → Scene Src Snk Dsk → Result B Refusal → Type 0)
    → Scene Src Snk Dsk → Scene Src Snk Dsk → Result B Refusal → Type 0
Follows First Next old new result =
    StopsAtOnce First old new result ⊎ GoesOn First Next old new result

-- a command: its work, which keeps to its opening calls, and then its report
pub record Runs {Src Snk Dsk : Type 0} (sink : Ghosts Snk) (calls : List Opening)
    (Work : Scene Src Snk Dsk → Scene Src Snk Dsk → Result Status Refusal → Type 0)
    (old new : Scene Src Snk Dsk) (status : Status) : Type 0 where
  pub between : Scene Src Snk Dsk
  pub outcome : Result Status Refusal
  pub works : Work old between outcome
  pub keeps : KeepsTo calls old between outcome
  pub ends : EndSays sink between new outcome status
