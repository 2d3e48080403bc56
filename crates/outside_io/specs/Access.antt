-- How files of the machine are opened as disks.
use Rattle.std.specs.Prelude.{◌≡◌, ⊤, ℕ, List, string_bytes}
use Rattle.outside_io.specs.declared.disk_access.DiskAccess.{DiskAccess}
use Rattle.outside_io.specs.declared.disk_access.DiskAccess.TheVariants.{Reading, Writing, Moving}

-- the file with this name is opened to be read, and not to be written
abbrev pub OnlyReads : DiskAccess → List ℕ → Type 0
OnlyReads Reading name = ⊤
OnlyReads Writing name = ⊥
OnlyReads (Moving from) name = string_bytes from ≡ name

-- each file is held alone until it is put back
abbrev pub HoldsAlone : DiskAccess → Type 0
HoldsAlone Reading = ⊥
HoldsAlone Writing = ⊤
HoldsAlone (Moving from) = ⊤
