-- What is opened of what a crash left.
use Rattle.std.specs.Prelude.{◌≡◌, ℕ, ◌+◌, ◌≤◌, List, length, take, Option, Some, slice_get}
use Rattle.outside_io.specs.declared.disks.Disk.{Ghosts}
use Rattle.rail_types.specs.declared.entries.Entry.{Entry}
use Rattle.rail_types.specs.Timetables.{Timetable}
use Rattle.path_commit.specs.Ledgers.{Ledger, moment_of, settled_of}
use Rattle.path_commit.specs.declared.answers.Committed.{Committed}
use Rattle.path_commit.specs.declared.answers.Committed.TheVariants.{Done}
use Rattle.path_commit.specs.declared.turns.Sent.{Sent}

-- the first entries of a history, so many at least
pub record IsPrefix (entries : List Entry) (least : ℕ) (opened : List Entry) : Type 0 where
  pub first : opened ≡ take (length opened) entries
  pub within : length opened ≤ length entries
  pub enough : least ≤ length opened

-- the same files
pub record IsOfFiles {D : Type 0} (timetable : Timetable) (network base : List ℕ)
    (book : Ledger D) : Type 0 where
  pub timetable_is : book.timetable ≡ timetable
  pub network_digest : book.network_digest ≡ network
  pub base_digest : book.base_digest ≡ base

-- a crash of a disk at some moment from this one on might have left
-- these bytes, where they are told
abbrev pub WasLeft : {D : Type 0} → Ghosts D → D → ℕ → Option (List ℕ) → Type 0
WasLeft disk old moment bytes =
    (image : List ℕ) × (bytes ≡ Some image) × disk.since old moment image

-- What is opened of these bytes, if a crash of the book's disk left them: at any moment since the
-- book was made a prefix of its history that has the entries found then; since the moment of an
-- entry a prefix that has this entry; and now a prefix that has all that are settled.
pub record IsReopened {D : Type 0} (disk : Ghosts D) (book : Ledger D) (bytes : Option (List ℕ))
    (opened : List Entry) : Type 0 where
  pub any_moment : WasLeft disk book.disk book.made bytes → IsPrefix book.entries book.found opened
  pub settled : (at moment : ℕ) → moment_of book at ≡ Some moment
      → WasLeft disk book.disk moment bytes → IsPrefix book.entries (at + 1) opened
  pub now : (image : List ℕ) → bytes ≡ Some image → disk.images book.disk image
      → IsPrefix book.entries (settled_of book) opened

-- each entry that was told done has a moment, and if a crash at some moment from that one on left
-- the bytes, it is opened at its position
abbrev pub KeepsDone : {D : Type 0} → Ghosts D → Ledger D → Option (List ℕ) → List Sent
    → List Committed → List Entry → Type 0
KeepsDone disk book bytes sent answers opened =
    (k : ℕ) (one : Sent) (at : ℕ) → slice_get sent k ≡ Some one
    → slice_get answers k ≡ Some (Done at)
    → (moment : ℕ) × (moment_of book at ≡ Some moment)
    × (WasLeft disk book.disk moment bytes → slice_get opened at ≡ Some one.entry)
