-- A disk that is out of its place while more is done.
use Rattle.std.specs.Prelude.{◌≡◌, ℕ, List, [], ◌∷◌, Ok}
use Rattle.outside_io.specs.Openings.{Answers, disk_at, StandsAgain}
use Rattle.outside_io.specs.Openings.{Opens as CallsOf}
use Rattle.outside_io.specs.Places.{HandsOut, TakesBack, Untouched}
use Rattle.outside_io.specs.declared.failures.Failed.{Failed}
use Rattle.command_reports.specs.Scenes.{Scene}

-- the disk was handed out, and nothing else changed
pub record IsLent {Src Snk Dsk : Type 0} (name : List ℕ) (it : Dsk) (old new : Scene Src Snk Dsk)
    : Type 0 where
  pub object : HandsOut {E = Failed} name old.disks new.disks (Ok it)
  pub ready : Answers {T = Dsk} {E = Failed} (disk_at name) old.standing new.standing (Ok it)
  pub opened : CallsOf (disk_at name ∷ []) old.opened new.opened
  pub sources : Untouched old.sources new.sources
  pub sinks : Untouched old.sinks new.sinks
  pub report : new.report ≡ old.report
  pub quiet : new.faults ≡ old.faults

-- the disk was put back, and nothing else changed
pub record IsReturned {Src Snk Dsk : Type 0} (name : List ℕ) (it : Dsk)
    (old new : Scene Src Snk Dsk) : Type 0 where
  pub object : TakesBack name it old.disks new.disks
  pub ready : StandsAgain (disk_at name) old.standing new.standing
  pub opened : new.opened ≡ old.opened
  pub sources : Untouched old.sources new.sources
  pub sinks : Untouched old.sinks new.sinks
  pub report : new.report ≡ old.report
  pub quiet : new.faults ≡ old.faults
