-- How a journal is begun.
use Rattle.std.specs.Prelude.{◌≡◌, ◌≢◌, ◌⊎◌, ℕ, List, [], length, IfSome, Result, Ok, Err}
use Rattle.outside_io.specs.Disks.{Looks}
use Rattle.outside_io.specs.Faults.{Rose}
use Rattle.outside_io.specs.declared.disks.Disk.{Ghosts}
use Rattle.path_recover.specs.declared.journal_reading.beginning.InitFault.{InitFault}
use Rattle.path_recover.specs.declared.journal_reading.beginning.InitFault.TheVariants.{NotEmpty}
use Rattle.path_recover.specs.declared.journal_reading.beginning.InitFault.TheVariants.{Fault}

-- a refusal tells how many bytes there are, at least one
abbrev pub IsNotEmpty : InitFault → List ℕ → Type 0
IsNotEmpty (NotEmpty len) file = (len ≡ length file) × (file ≢ [])
IsNotEmpty Fault file = Unit {0}

-- nothing was written: the contents, the clock and all images are as they were
pub record IsAsItWas {D : Type 0} (disk : Ghosts D) (old new : D) : Type 0 where
  pub contents : disk.contents new ≡ disk.contents old
  pub time : Looks (disk.clock old) (disk.clock new) (disk.since old) (disk.since new)
      (disk.images old) (disk.images new)

-- the disk had no byte, where it tells
abbrev pub WasEmpty : {D : Type 0} → Ghosts D → D → Type 0
WasEmpty disk old = IfSome (disk.contents old) (λ file. file ≡ [])

-- nothing was written to a disk that isn't empty, whatever failed
abbrev pub IsUntouched : {D : Type 0} → Ghosts D → D → D → InitFault → Type 0
IsUntouched disk old new (NotEmpty len) = IsAsItWas disk old new
IsUntouched disk old new Fault = IsAsItWas disk old new ⊎ WasEmpty disk old

-- the count rose where a fault is told, and stays otherwise
abbrev pub HasInitCause : {T : Type 0} → ℕ → ℕ → Result T InitFault → Type 0
HasInitCause before now (Ok it) = now ≡ before
HasInitCause before now (Err (NotEmpty len)) = now ≡ before
HasInitCause before now (Err Fault) = Rose before now
