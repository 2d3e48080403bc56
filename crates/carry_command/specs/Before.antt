-- The base timetable by which the old journal was kept.
use Rattle.std.specs.Prelude.{◌≡◌, ◌≢◌, ◌⊎◌, ℕ, List, ◌++◌, codes, Result, Ok, Err}
use Rattle.command_reports.specs.declared.exit_status.Status.TheVariants.{Base}
use Rattle.command_reports.specs.Scenes.{Scene}
use Rattle.outside_io.specs.declared.sources.Source.{Ghosts}
use Rattle.command_reports.specs.Refusals.{IsTold, line_of, status_of}
use Rattle.command_reports.specs.declared.refusals.Refusal.{Refusal}
use Rattle.command_files.specs.Files.{BaseStep}
use Rattle.command_files.specs.declared.bases.BaseFile.{BaseFile}

-- a fault of a base file is told as one of the base file of before, and any other refusal as it is
abbrev pub IsRenamed : Refusal → Refusal → Type 0
IsRenamed told refusal =
    ((status_of told ≡ Base) × IsTold Base (codes "from-" ++ line_of told) refusal)
    ⊎ ((status_of told ≢ Base) × (refusal ≡ told))

-- the file that was read, or its refusal renamed
abbrev pub Renames : Result BaseFile Refusal → Result BaseFile Refusal → Type 0
Renames (Ok file) result = result ≡ Ok file
Renames (Err told) (Ok file) = ⊥
Renames (Err told) (Err refusal) = IsRenamed told refusal

-- The step that reads the base file of before: as any base file, but for how its faults are told.
pub record BeforeStep {Src Snk Dsk : Type 0} (source : Ghosts Src) (zones : ℕ) (name : List ℕ)
    (old new : Scene Src Snk Dsk) (result : Result BaseFile Refusal) : Type 0 where
  pub read : Result BaseFile Refusal
  pub step : BaseStep source zones name old new read
  pub renames : Renames read result
