-- The step of a command that reads a file.
use Rattle.std.specs.Prelude.{◌≡◌, ◌⊎◌, ℕ, List, codes, Vec, Result, Ok, Err}
use Rattle.std.specs.Global.{Global}
use Rattle.command_reports.specs.declared.exit_status.Status.TheVariants.{Opening}
use Rattle.outside_io.specs.Amounts.{FailsWithin}
use Rattle.outside_io.specs.Faults.{Rose}
use Rattle.outside_io.specs.Openings.{source_at}
use Rattle.outside_io.specs.Places.{Replaces, Untouched}
use Rattle.outside_io.specs.declared.sources.Source.{Ghosts}
use Rattle.command_reports.specs.Reading.{GaveAll, GaveTooMuch}
use Rattle.command_reports.specs.Scenes.{ChangesOnlySource, IsReady, Opens, Scene}
use Rattle.command_reports.specs.Refusals.{IsTold, line_with}
use Rattle.command_reports.specs.declared.refusals.Refusal.{Refusal}
use Rattle.command_reports.specs.declared.refusals.Refusal.TheVariants.{Memory}
use Rattle.command_files.specs.Kinds.{excess_of, head_of, limit_of, status_of}
use Rattle.command_files.specs.declared.files.FileKind.{FileKind}

-- the file was opened, and these are all its bytes
pub record Reads {Src Snk Dsk : Type 0} (source : Ghosts Src) (name : List ℕ)
    (old new : Scene Src Snk Dsk) (bytes : List ℕ) : Type 0 where
  pub opens : Opens (source_at name) old new
  pub gave : Replaces (GaveAll source bytes) (old.sources name) (new.sources name)

-- the file was read, and means this
pub record IsRead {Src Snk Dsk A : Type 0} (source : Ghosts Src) (name : List ℕ)
    (Means : List ℕ → A → Type 0) (old new : Scene Src Snk Dsk) (value : A) : Type 0 where
  pub bytes : List ℕ
  pub reads : Reads source name old new bytes
  pub means : Means bytes value

-- the name could not be opened
pub record IsNotOpened {Src Snk Dsk : Type 0} (name : List ℕ) (old new : Scene Src Snk Dsk)
    (refusal : Refusal) : Type 0 where
  pub unready : IsReady (old.standing (source_at name)) → ⊥
  pub same : Untouched old.sources new.sources
  pub rose : Rose old.faults new.faults
  pub told : IsTold Opening (line_with (codes "open: ") name) refusal

-- reading failed
pub record IsNotRead {Src Snk Dsk : Type 0} (kind : FileKind) (source : Ghosts Src) (name : List ℕ)
    (old new : Scene Src Snk Dsk) (refusal : Refusal) : Type 0 where
  pub opens : Opens (source_at name) old new
  pub fails : Replaces (FailsWithin (limit_of kind) source.left source.faults) (old.sources name)
      (new.sources name)
  pub told : IsTold Opening (line_with (codes "read: ") name) refusal

-- the file has too many bytes
pub record IsTooLong {Src Snk Dsk : Type 0} (kind : FileKind) (source : Ghosts Src) (name : List ℕ)
    (old new : Scene Src Snk Dsk) (refusal : Refusal) : Type 0 where
  pub opens : Opens (source_at name) old new
  pub more : Replaces (GaveTooMuch source (limit_of kind)) (old.sources name) (new.sources name)
  pub told : IsTold (status_of kind) (line_with (head_of kind) (excess_of kind)) refusal

-- the bytes have a fault, with this text
pub record IsFaulty (kind : FileKind) (HasFault : List ℕ → List ℕ → Type 0) (bytes : List ℕ)
    (refusal : Refusal) : Type 0 where
  pub text : List ℕ
  pub has : HasFault bytes text
  pub told : IsTold (status_of kind) (line_with (head_of kind) text) refusal

-- the file was read, and its bytes have a fault
pub record IsReadFaulty {Src Snk Dsk : Type 0} (kind : FileKind) (source : Ghosts Src)
    (name : List ℕ) (HasFault : List ℕ → List ℕ → Type 0) (old new : Scene Src Snk Dsk)
    (refusal : Refusal) : Type 0 where
  pub bytes : List ℕ
  pub reads : Reads source name old new bytes
  pub faulty : IsFaulty kind HasFault bytes refusal

-- the file was opened, its source had no fault, and memory was wanted
pub record WantsMemory {Src Snk Dsk : Type 0} (source : Ghosts Src) (name : List ℕ)
    (old new : Scene Src Snk Dsk) (refusal : Refusal) : Type 0 where
  pub opens : Opens (source_at name) old new
  pub quiet : Replaces (λ before after. source.faults after ≡ source.faults before)
      (old.sources name) (new.sources name)
  pub memory : refusal ≡ Memory

-- why the bytes are not there
abbrev pub IsUnread : {Src Snk Dsk : Type 0} → FileKind → Ghosts Src → List ℕ → Scene Src Snk Dsk
    → Scene Src Snk Dsk → Refusal → Type 0
IsUnread kind source name old new refusal =
    IsNotOpened name old new refusal
    ⊎ (IsNotRead kind source name old new refusal
    ⊎ (IsTooLong kind source name old new refusal ⊎ WantsMemory source name old new refusal))

-- what is said of what was read, or of why it was not
abbrev pub FileSays : {Src Snk Dsk A : Type 0} → FileKind → Ghosts Src → List ℕ
    → (List ℕ → A → Type 0) → (List ℕ → List ℕ → Type 0) → Scene Src Snk Dsk → Scene Src Snk Dsk
    → Result A Refusal → Type 0
FileSays kind source name Means HasFault old new (Ok value) =
    IsRead source name Means old new value
FileSays kind source name Means HasFault old new (Err refusal) =
    IsUnread kind source name old new refusal
    ⊎ IsReadFaulty kind source name HasFault old new refusal

-- The step that reads a file: its bytes mean a value, or have a fault, by these two. It is opened
-- once, and nothing else changes.
pub record FileStep {Src Snk Dsk A : Type 0} (kind : FileKind) (source : Ghosts Src)
    (name : List ℕ) (Means : List ℕ → A → Type 0) (HasFault : List ℕ → List ℕ → Type 0)
    (old new : Scene Src Snk Dsk) (result : Result A Refusal) : Type 0 where
  pub says : FileSays kind source name Means HasFault old new result
  pub only : ChangesOnlySource name old new

-- *inside*: what bytes mean, or why they mean nothing
abbrev pub MeansOrRefuses : {A : Type 0} → FileKind → (List ℕ → A → Type 0)
    → (List ℕ → List ℕ → Type 0) → List ℕ → Result A Refusal → Type 0
MeansOrRefuses kind Means HasFault bytes (Ok value) = Means bytes value
MeansOrRefuses kind Means HasFault bytes (Err refusal) =
    IsFaulty kind HasFault bytes refusal ⊎ (refusal ≡ Memory)

-- *inside*: a file that was read, or was not
abbrev pub BytesSay : {Src Snk Dsk : Type 0} → FileKind → Ghosts Src → List ℕ → Scene Src Snk Dsk
    → Scene Src Snk Dsk → Result (Vec ℕ Global) Refusal → Type 0
BytesSay kind source name old new (Ok bytes) =
    Reads source name old new bytes.items × ChangesOnlySource name old new
BytesSay kind source name old new (Err refusal) =
    IsUnread kind source name old new refusal × ChangesOnlySource name old new
