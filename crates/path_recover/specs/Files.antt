-- What a file tells that should be a journal of a version, with two digests, on a timetable.
use Rattle.std.specs.Prelude.{◌≡◌, ℕ, ◌<◌, ◌^◌, List, ◌++◌, length, All}
use Rattle.rail_types.specs.declared.entries.Entry.{Entry}
use Rattle.rail_types.specs.Timetables.{Timetable}
use Rattle.grant_log.specs.Legal.{IsLegal}
use Rattle.grant_journal.specs.Headers.{header_of_version}
use Rattle.grant_journal.specs.Histories.{bodies_of, ReadsAs}
use Rattle.path_recover.specs.declared.journal_reading.faults.OpenFault.{OpenFault}
use Rattle.path_recover.specs.declared.journal_reading.faults.OpenFault.TheVariants.{ReadFault}
use Rattle.path_recover.specs.declared.journal_reading.faults.OpenFault.TheVariants.{Damaged}
use Rattle.path_recover.specs.declared.journal_reading.faults.OpenFault.TheVariants.{Illegal}
use Rattle.path_recover.specs.declared.journal_reading.faults.OpenFault.TheVariants.{Memory}
use Rattle.path_recover.specs.Starts.{StartIsRefused}
use Rattle.path_recover.specs.Walks.{IsReadTo, IsDamagedAt, IsIllegalAt, IsSpelledIn}

-- behind the header stands what has P
abbrev pub HasBehind : List ℕ → List ℕ → (List ℕ → Type 0) → Type 0
HasBehind header file P = (left : List ℕ) × (file ≡ header ++ left) × P left

-- the file has the header, and behind it these entries, up to a gate at this offset that isn't open
abbrev pub IsFound : Timetable → ℕ → List ℕ → List ℕ → List ℕ → List Entry → ℕ → Type 0
IsFound timetable version network base file entries gate =
    HasBehind (header_of_version version network base) file
    (λ left. IsReadTo timetable version left 76 entries gate)

-- the file reads as these entries, which are legal, and which a journal of this version can have
pub record TellsHistory (timetable : Timetable) (version : ℕ) (network base file : List ℕ)
    (entries : List Entry) : Type 0 where
  pub legal : IsLegal timetable entries
  pub spelled : All (IsSpelledIn version) entries
  pub short : All (λ body. length body < 2 ^ 32) (bodies_of entries)
  pub reads : ReadsAs (header_of_version version network base) (bodies_of entries) file

-- why the bytes of a file are refused; a fault of the disk and want of memory are none of their own
abbrev pub IsRefused : Timetable → ℕ → List ℕ → List ℕ → List ℕ → OpenFault → Type 0
IsRefused timetable version network base file (Damaged at) =
    HasBehind (header_of_version version network base) file
    (λ left. IsDamagedAt timetable version left 76 at)
IsRefused timetable version network base file (Illegal entry) =
    HasBehind (header_of_version version network base) file
    (λ left. IsIllegalAt timetable version left entry)
IsRefused timetable version network base file ReadFault = Unit {0}
IsRefused timetable version network base file Memory = Unit {0}
IsRefused timetable version network base file fault =
    StartIsRefused version network base file fault

-- inside: why the bytes behind the header are refused
abbrev pub WalkIsRefused : Timetable → ℕ → List ℕ → OpenFault → Type 0
WalkIsRefused timetable version left (Damaged at) = IsDamagedAt timetable version left 76 at
WalkIsRefused timetable version left (Illegal entry) = IsIllegalAt timetable version left entry
WalkIsRefused timetable version left Memory = Unit {0}
WalkIsRefused timetable version left other = ⊥
