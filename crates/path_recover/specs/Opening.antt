-- A book that was just made of what a disk holds.
use Rattle.std.specs.Prelude.{◌≡◌, ℕ, List, [], length, Some}
use Rattle.outside_io.specs.declared.disks.Disk.{Ghosts}
use Rattle.rail_types.specs.Timetables.{Timetable}
use Rattle.path_commit.specs.Ledgers.{Ledger}

-- the book belongs to these files, and all its entries were there when it was made, which is now
pub record IsJustMade {D : Type 0} (disk : Ghosts D) (timetable : Timetable) (network base : List ℕ)
    (book : Ledger D) : Type 0 where
  pub network_digest : book.network_digest ≡ network
  pub base_digest : book.base_digest ≡ base
  pub timetable_is : book.timetable ≡ timetable
  pub made : book.made ≡ disk.clock book.disk
  pub found : book.found ≡ length book.entries
  pub moments : book.moments ≡ []

-- a crash leaves what a read gives
abbrev pub IsSynced : {D : Type 0} → Ghosts D → D → D → Type 0
IsSynced disk old new = (image : List ℕ) → disk.images new image → disk.contents old ≡ Some image
