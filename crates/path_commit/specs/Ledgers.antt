-- A book as its callers see it, and what its type keeps.
use Rattle.std.specs.Prelude.{◌≡◌, ℕ, ◌+◌, ◌-◌, ◌≤◌, ◌<◌, ◌^◌, List, length, Option, Some}
use Rattle.std.specs.Prelude.{slice_get, nat_lt, if◌then◌else◌, All}
use Rattle.rail_types.specs.declared.entries.Entry.{Entry}
use Rattle.rail_types.specs.Timetables.{IsTimetable, Timetable}
use Rattle.entry_codec.specs.Within.{HasBody}
use Rattle.outside_io.specs.declared.disks.Disk.{Ghosts}
use Rattle.grant_log.specs.Legal.{IsLegal}
use Rattle.grant_journal.specs.Headers.{header_of}
use Rattle.grant_journal.specs.Histories.{bodies_of, ReadsAsPrefix}

-- the disk, the digests of the network's file and of the base timetable's, the timetable, the
-- history, the moment of the book's making, the number of entries then, and the moment at which
-- each later entry was settled
pub record Ledger (D : Type 0) : Type 0 where
  pub disk : D
  pub network_digest : List ℕ
  pub base_digest : List ℕ
  pub timetable : Timetable
  pub entries : List Entry
  pub made : ℕ
  pub found : ℕ
  pub moments : List ℕ

-- how many entries are settled
abbrev pub settled_of : {D : Type 0} → Ledger D → ℕ
settled_of ledger = ledger.found + length ledger.moments

-- the moment from which on a crash leaves the entry at a position: the making for those that were
-- there then; None where the entry is not settled
abbrev pub moment_of : {D : Type 0} → Ledger D → ℕ → Option ℕ
moment_of ledger at =
    if nat_lt at ledger.found then Some ledger.made
    else slice_get ledger.moments (at - ledger.found)

-- the file reads as a prefix of the book's history, which has the first entries up to this count
abbrev pub IsPrefixOf : {D : Type 0} → Ledger D → ℕ → List ℕ → Type 0
IsPrefixOf ledger least file =
    ReadsAsPrefix (header_of ledger.network_digest ledger.base_digest) (bodies_of ledger.entries)
    least file

-- What a book keeps at any time: its history is legal, and each entry can be spelled; all entries
-- are settled, or all but the last; each image of now reads as the history, or as it without an
-- entry that is not settled; each image since the making reads as a prefix that has the entries
-- found then; and each image since the moment of an entry as a prefix that has this entry. No
-- moment that is kept is later than now.
pub record IsKept {D : Type 0} (disk : Ghosts D) (ledger : Ledger D) : Type 0 where
  pub timetable : IsTimetable ledger.timetable
  pub legal : IsLegal ledger.timetable ledger.entries
  pub spelled : All HasBody ledger.entries
  pub settled : (settled_of ledger ≤ length ledger.entries)
      × (length ledger.entries ≤ settled_of ledger + 1)
  pub short : All (λ body. length body < 2 ^ 32) (bodies_of ledger.entries)
  pub now : (image : List ℕ) → disk.images ledger.disk image
      → IsPrefixOf ledger (settled_of ledger) image
  pub made_before : ledger.made ≤ disk.clock ledger.disk
  pub since_made : (image : List ℕ) → disk.since ledger.disk ledger.made image
      → IsPrefixOf ledger ledger.found image
  pub settled_before : (at moment : ℕ) → moment_of ledger at ≡ Some moment
      → moment ≤ disk.clock ledger.disk
  pub since_settled : (at moment : ℕ) (image : List ℕ) → moment_of ledger at ≡ Some moment
      → disk.since ledger.disk moment image → IsPrefixOf ledger (at + 1) image
