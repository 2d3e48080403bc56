-- How the disks of an order are opened.
use Rattle.std.specs.Prelude.{◌≡◌, ◌⊎◌, ℕ, List, Some, string_bytes}
use Rattle.command_line.specs.Spelling.{Word}
use Rattle.command_words.specs.Orders.{AreWords}
use Rattle.command_words.specs.declared.orders.Order.{Order}
use Rattle.command_words.specs.declared.orders.Order.TheVariants.{Init, Stairs, Capacity}
use Rattle.command_words.specs.declared.orders.Order.TheVariants.{Check, Carry}
use Rattle.osrd_stdcm.specs.Runs.{AskNothing}
use Rattle.outside_io.specs.declared.disk_access.DiskAccess.{DiskAccess}
use Rattle.outside_io.specs.declared.disk_access.DiskAccess.TheVariants.{Reading, Writing, Moving}

-- the disk of this name is only read, each other is written, and all are held alone
abbrev pub IsMovedFrom : List ℕ → DiskAccess → Type 0
IsMovedFrom from (Moving name) = string_bytes name ≡ from
IsMovedFrom from access = ⊥

-- the disks of the order may be opened like this: what only reads a journal is given no more, and
-- the old journal of what begins one from it is only read
abbrev pub IsAccessFor : Order → DiskAccess → Type 0
IsAccessFor (Stairs network base journal entry out) access = access ≡ Reading
IsAccessFor (Capacity network base journal first last from to out) access = access ≡ Reading
IsAccessFor (Check network trains base journal proof) access = access ≡ Reading
IsAccessFor (Init network base journal (Some from)) access = IsMovedFrom from access
IsAccessFor (Carry network base journal from from_base left) access = IsMovedFrom from access
IsAccessFor order access = access ≡ Writing

-- the words spell an order, and its disks may be opened like this
pub record IsOfOrder (words : List Word) (access : DiskAccess) : Type 0 where
  pub order : Order
  pub asked : AreWords words order
  pub access_for : IsAccessFor order access

-- so they may, or the words spell no order
abbrev pub IsAccessForWords : List Word → DiskAccess → Type 0
IsAccessForWords words access = IsOfOrder words access ⊎ (AskNothing words × (access ≡ Writing))
