-- What reading a file says.
use Rattle.std.specs.Prelude.{◌≡◌, ℕ, List, Vec, Result, Ok, Err}
use Rattle.std.specs.Global.{Global}
use Rattle.std.specs.Io.KnownBytes.{Consumes, IsAtEnd}
use Rattle.outside_io.specs.Amounts.{FailsWithin, TookMoreThan}
use Rattle.outside_io.specs.Faults.{Rose}
use Rattle.outside_io.specs.Openings.{source_at}
use Rattle.outside_io.specs.Places.{Replaces, Untouched}
use Rattle.outside_io.specs.declared.sources.Source.{Ghosts}
use Rattle.command_reports.specs.declared.file_rounds.reading.FileFault.{FileFault}
use Rattle.command_reports.specs.declared.file_rounds.reading.FileFault.TheVariants.{NotOpened}
use Rattle.command_reports.specs.declared.file_rounds.reading.FileFault.TheVariants.{Failed}
use Rattle.command_reports.specs.declared.file_rounds.reading.FileFault.TheVariants.{TooLong}
use Rattle.command_reports.specs.declared.file_rounds.reading.FileFault.TheVariants.{Memory}
use Rattle.command_reports.specs.Scenes.{IsReady, Opens, Scene}

-- the source gave these bytes, which are all that were left, and had no fault
pub record GaveAll {S : Type 0} (source : Ghosts S) (bytes : List ℕ)
    (before after : S) : Type 0 where
  pub gave : Consumes (source.left before) (source.left after) bytes
  pub at_end : IsAtEnd (source.left after)
  pub quiet : source.faults after ≡ source.faults before

-- the source gave more than so many bytes, and had no fault
pub record GaveTooMuch {S : Type 0} (source : Ghosts S) (limit : ℕ)
    (before after : S) : Type 0 where
  pub gave : TookMoreThan limit (source.left before) (source.left after)
  pub quiet : source.faults after ≡ source.faults before

-- what a reading says of the source under its name
abbrev pub ReadSays : {Src Snk Dsk : Type 0} → Ghosts Src → ℕ → List ℕ → Scene Src Snk Dsk
    → Scene Src Snk Dsk → Result (Vec ℕ Global) FileFault → Type 0
ReadSays source limit name old new (Ok bytes) =
    Opens (source_at name) old new
    × Replaces (GaveAll source bytes.items) (old.sources name) (new.sources name)
ReadSays source limit name old new (Err NotOpened) =
    (IsReady (old.standing (source_at name)) → ⊥) × Untouched old.sources new.sources
    × Rose old.faults new.faults
ReadSays source limit name old new (Err Failed) =
    Opens (source_at name) old new
    × Replaces (FailsWithin limit source.left source.faults) (old.sources name)
    (new.sources name)
ReadSays source limit name old new (Err TooLong) =
    Opens (source_at name) old new
    × Replaces (GaveTooMuch source limit) (old.sources name) (new.sources name)
ReadSays source limit name old new (Err Memory) =
    Opens (source_at name) old new
    × Replaces (λ before after. source.faults after
    ≡ source.faults before) (old.sources name) (new.sources name)
