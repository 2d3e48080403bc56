-- Sources and sinks that are out, and that come in again.
use Rattle.std.specs.Prelude.{◌≡◌, ℕ, List, [], ◌∷◌, Ok}
use Rattle.outside_io.specs.Openings.{Answers, Opening, source_at, sink_at, StandsAgain}
use Rattle.outside_io.specs.Openings.{Undisturbed}
use Rattle.outside_io.specs.Openings.{Opens as CallsOf}
use Rattle.outside_io.specs.Places.{HandsOut, TakesBack, Untouched}
use Rattle.outside_io.specs.declared.failures.Failed.{Failed}
use Rattle.command_reports.specs.Scenes.{Scene}

-- a source or a sink that is handed out under a name
pub data Loan (Src Snk : Type 0) : Type 0 where
  source_of : List ℕ → Src → Loan Src Snk
  sink_of : List ℕ → Snk → Loan Src Snk

-- the call that opens it
abbrev pub call_of : {Src Snk : Type 0} → Loan Src Snk → Opening
call_of (source_of name it) = source_at name
call_of (sink_of name it) = sink_at name

-- nothing changed but the calls that were made and the faults that were counted
pub record IsAsBefore {Src Snk Dsk : Type 0} (old new : Scene Src Snk Dsk) : Type 0 where
  pub standing : Undisturbed old.standing new.standing
  pub sources : Untouched old.sources new.sources
  pub sinks : Untouched old.sinks new.sinks
  pub disks : Untouched old.disks new.disks
  pub report : new.report ≡ old.report

-- nothing changed, no opening call was made, and no fault was counted
pub record IsUnchanged {Src Snk Dsk : Type 0} (old new : Scene Src Snk Dsk) : Type 0 where
  pub same : IsAsBefore old new
  pub opened : new.opened ≡ old.opened
  pub quiet : new.faults ≡ old.faults

-- this source was handed out under this name
pub record SourceIsOut {Src Snk Dsk : Type 0} (name : List ℕ) (it : Src)
    (old new : Scene Src Snk Dsk) : Type 0 where
  pub object : HandsOut {E = Failed} name old.sources new.sources (Ok it)
  pub ready : Answers {E = Failed} (source_at name) old.standing new.standing (Ok it)
  pub opened : CallsOf (source_at name ∷ []) old.opened new.opened
  pub quiet : new.faults ≡ old.faults
  pub sinks : Untouched old.sinks new.sinks
  pub disks : Untouched old.disks new.disks
  pub report : new.report ≡ old.report

-- this sink was handed out under this name
pub record SinkIsOut {Src Snk Dsk : Type 0} (name : List ℕ) (it : Snk)
    (old new : Scene Src Snk Dsk) : Type 0 where
  pub object : HandsOut {E = Failed} name old.sinks new.sinks (Ok it)
  pub ready : Answers {E = Failed} (sink_at name) old.standing new.standing (Ok it)
  pub opened : CallsOf (sink_at name ∷ []) old.opened new.opened
  pub quiet : new.faults ≡ old.faults
  pub sources : Untouched old.sources new.sources
  pub disks : Untouched old.disks new.disks
  pub report : new.report ≡ old.report

-- this source was put back under this name
pub record SourceIsIn {Src Snk Dsk : Type 0} (name : List ℕ) (it : Src)
    (old new : Scene Src Snk Dsk) : Type 0 where
  pub object : TakesBack name it old.sources new.sources
  pub ready : StandsAgain (source_at name) old.standing new.standing
  pub opened : new.opened ≡ old.opened
  pub quiet : new.faults ≡ old.faults
  pub sinks : Untouched old.sinks new.sinks
  pub disks : Untouched old.disks new.disks
  pub report : new.report ≡ old.report

-- this sink was put back under this name
pub record SinkIsIn {Src Snk Dsk : Type 0} (name : List ℕ) (it : Snk)
    (old new : Scene Src Snk Dsk) : Type 0 where
  pub object : TakesBack name it old.sinks new.sinks
  pub ready : StandsAgain (sink_at name) old.standing new.standing
  pub opened : new.opened ≡ old.opened
  pub quiet : new.faults ≡ old.faults
  pub sources : Untouched old.sources new.sources
  pub disks : Untouched old.disks new.disks
  pub report : new.report ≡ old.report

-- it was handed out, and it was put back
abbrev pub IsOut : {Src Snk Dsk : Type 0} → Loan Src Snk → Scene Src Snk Dsk
    → Scene Src Snk Dsk → Type 0
IsOut (source_of name it) old new = SourceIsOut name it old new
IsOut (sink_of name it) old new = SinkIsOut name it old new

abbrev pub IsIn : {Src Snk Dsk : Type 0} → Loan Src Snk → Scene Src Snk Dsk
    → Scene Src Snk Dsk → Type 0
IsIn (source_of name it) old new = SourceIsIn name it old new
IsIn (sink_of name it) old new = SinkIsIn name it old new

-- these were handed out, one after another
abbrev pub AreOut : {Src Snk Dsk : Type 0} → List (Loan Src Snk) → Scene Src Snk Dsk
    → Scene Src Snk Dsk → Type 0
AreOut [] old new = new ≡ old
AreOut {Src} {Snk} {Dsk} (loan ∷ loans) old new =
    (mid : Scene Src Snk Dsk) × IsOut loan old mid × AreOut loans mid new

-- these were put back, the last of them first
abbrev pub AreIn : {Src Snk Dsk : Type 0} → List (Loan Src Snk) → Scene Src Snk Dsk
    → Scene Src Snk Dsk → Type 0
AreIn [] old new = new ≡ old
AreIn {Src} {Snk} {Dsk} (loan ∷ loans) old new =
    (mid : Scene Src Snk Dsk) × AreIn loans old mid × IsIn loan mid new
