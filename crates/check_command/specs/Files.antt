-- The file of proofs: it is opened once, read as a whole, and put back.
use Rattle.std.specs.Prelude.{◌⊎◌, ◌≤◌, ℕ, List, length, codes, Vec, Result, Ok, Err}
use Rattle.std.specs.Global.{Global}
use Rattle.command_files.specs.Steps.{IsNotOpened, Reads, WantsMemory}
use Rattle.command_reports.specs.Refusals.{IsTold, line_with}
use Rattle.command_reports.specs.declared.refusals.Refusal.{Refusal}
use Rattle.command_reports.specs.declared.exit_status.Status.TheVariants.{No, Opening}
use Rattle.command_reports.specs.Reading.{GaveTooMuch}
use Rattle.command_reports.specs.Scenes.{ChangesOnlySource, Opens, Scene}
use Rattle.outside_io.specs.Amounts.{FailsWithin}
use Rattle.outside_io.specs.Openings.{source_at}
use Rattle.outside_io.specs.Places.{Replaces}
use Rattle.outside_io.specs.declared.sources.Source.{Ghosts}
use Rattle.proof_texts.specs.declared.reading.TheConstants.{MAX_PROOF_FILE_BYTES}

-- the file was opened, and these are all its bytes, no more than a file of proofs may have
pub record IsRead {Src Snk Dsk : Type 0} (source : Ghosts Src) (name : List ℕ)
    (old new : Scene Src Snk Dsk) (bytes : List ℕ) : Type 0 where
  pub reads : Reads source name old new bytes
  pub short : length bytes ≤ MAX_PROOF_FILE_BYTES

-- reading failed
pub record IsNotRead {Src Snk Dsk : Type 0} (source : Ghosts Src) (name : List ℕ)
    (old new : Scene Src Snk Dsk) (refusal : Refusal) : Type 0 where
  pub opens : Opens (source_at name) old new
  pub fails : Replaces (FailsWithin MAX_PROOF_FILE_BYTES source.left source.faults)
      (old.sources name) (new.sources name)
  pub told : IsTold Opening (line_with (codes "read: ") name) refusal

-- the line of a file that has too many bytes
abbrev pub too_long_line : List ℕ
too_long_line = line_with (codes "proof ") (codes "file too long")

-- the file has too many bytes
pub record IsTooLong {Src Snk Dsk : Type 0} (source : Ghosts Src) (name : List ℕ)
    (old new : Scene Src Snk Dsk) (refusal : Refusal) : Type 0 where
  pub opens : Opens (source_at name) old new
  pub more : Replaces (GaveTooMuch source MAX_PROOF_FILE_BYTES) (old.sources name)
      (new.sources name)
  pub told : IsTold No too_long_line refusal

-- all bytes of the file, or why they are not there
abbrev pub ProofFileSays : {Src Snk Dsk : Type 0} → Ghosts Src → List ℕ → Scene Src Snk Dsk
    → Scene Src Snk Dsk → Result (Vec ℕ Global) Refusal → Type 0
ProofFileSays source name old new (Ok bytes) = IsRead source name old new bytes.items
ProofFileSays source name old new (Err refusal) =
    IsNotOpened name old new refusal
    ⊎ (IsNotRead source name old new refusal
    ⊎ (IsTooLong source name old new refusal ⊎ WantsMemory source name old new refusal))

-- the step that reads the file: it is opened once, and nothing else changes
pub record ProofFileStep {Src Snk Dsk : Type 0} (source : Ghosts Src) (name : List ℕ)
    (old new : Scene Src Snk Dsk) (result : Result (Vec ℕ Global) Refusal) : Type 0 where
  pub says : ProofFileSays source name old new result
  pub only : ChangesOnlySource name old new
