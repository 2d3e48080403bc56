-- Bytes of a disk that are read piece by piece.
use Rattle.std.specs.Prelude.{◌≡◌, ℕ, List, length, take}
use Rattle.outside_io.specs.Disks.{Looks}
use Rattle.outside_io.specs.declared.disks.Disk.{Ghosts}

-- the bytes are the first ones of a file
abbrev pub IsFrontOf : List ℕ → List ℕ → Type 0
IsFrontOf front file = front ≡ take (length front) file

-- nothing was written, and no time passed
pub record HasLooked {D : Type 0} (disk : Ghosts D) (old new : D) : Type 0 where
  pub contents : disk.contents new ≡ disk.contents old
  pub time : Looks (disk.clock old) (disk.clock new) (disk.since old) (disk.since new)
      (disk.images old) (disk.images new)
