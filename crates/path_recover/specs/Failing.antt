-- Answers that tell a fault, and the count of the disk.
use Rattle.std.specs.Prelude.{◌≡◌, ℕ, List, Result, Ok, Err}
use Rattle.outside_io.specs.Disks.{Spans}
use Rattle.outside_io.specs.Faults.{Rose}
use Rattle.outside_io.specs.declared.disks.Disk.{Ghosts}
use Rattle.path_recover.specs.declared.journal_reading.faults.OpenFault.{OpenFault}
use Rattle.path_recover.specs.declared.journal_reading.faults.OpenFault.TheVariants.{ReadFault}
use Rattle.path_recover.specs.declared.journal_reading.faults.OpenFault.TheVariants.{Memory}

-- the count rose where the disk failed, and stays at every other refusal
abbrev pub HasFaultCause : ℕ → ℕ → OpenFault → Type 0
HasFaultCause before now ReadFault = Rose before now
HasFaultCause before now fault = now ≡ before

-- the count rose where the answer tells a fault of the disk, and stays otherwise
abbrev pub IsAsFaulty : {T : Type 0} → ℕ → ℕ → Result T OpenFault → Type 0
IsAsFaulty before now (Ok it) = now ≡ before
IsAsFaulty before now (Err fault) = HasFaultCause before now fault

-- the file was not read as a whole: the disk failed, or memory was wanted
abbrev pub IsUnread : OpenFault → Type 0
IsUnread ReadFault = Unit {0}
IsUnread Memory = Unit {0}
IsUnread fault = ⊥

-- the fault isn't one of the disk
abbrev pub IsNotOfDisk : OpenFault → Type 0
IsNotOfDisk ReadFault = ⊥
IsNotOfDisk fault = Unit {0}

-- nothing was written: the contents stay, and each image was one before
pub record IsOnlyRead {D : Type 0} (disk : Ghosts D) (old new : D) : Type 0 where
  pub contents : disk.contents new ≡ disk.contents old
  pub images : (image : List ℕ) → disk.images new image → disk.images old image
  pub time : Spans disk.clock disk.since old new (disk.images old)
