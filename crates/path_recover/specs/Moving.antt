-- How a journal of version 1 is moved to a new disk.
use Rattle.std.specs.Prelude.{◌≡◌, ◌≢◌, ◌⊎◌, ℕ, List, [], ◌∷◌, ◌++◌, length, IfSome}
use Rattle.outside_io.specs.Faults.{Rose}
use Rattle.outside_io.specs.declared.disks.Disk.{Ghosts}
use Rattle.rail_types.specs.declared.entries.Entry.{Entry}
use Rattle.rail_types.specs.Timetables.{Timetable}
use Rattle.grant_journal.specs.Headers.{header_of}
use Rattle.grant_journal.specs.Histories.{bodies_of, front_of, ReadsAs}
use Rattle.path_recover.specs.Beginning.{IsAsItWas, WasEmpty}
use Rattle.path_recover.specs.declared.journal_reading.faults.OpenFault.{OpenFault}
use Rattle.path_recover.specs.declared.journal_reading.faults.OpenFault.TheVariants.{Memory}
use Rattle.path_recover.specs.Files.{IsFound, IsRefused}
use Rattle.path_recover.specs.Failing.{HasFaultCause}
use Rattle.path_recover.specs.declared.history_reading.moves.MoveFault.{MoveFault}
use Rattle.path_recover.specs.declared.history_reading.moves.MoveFault.TheVariants.{NotEmpty, From}
use Rattle.path_recover.specs.declared.history_reading.moves.MoveFault.TheVariants.{Fault}
use Rattle.path_recover.specs.declared.history_reading.moves.MoveFault.TheVariants.{
  Memory as no_memory,
}

-- the old file is a journal of version 1 with so many entries, and whatever has P reads as them in
-- the version of today: it is a header, their records and a closed gate, and no byte more
pub record IsMoved (timetable : Timetable) (network base : List ℕ) (count : ℕ) (P : List ℕ → Type 0)
    (file : List ℕ) : Type 0 where
  pub entries : List Entry
  pub gate : ℕ
  pub found : IsFound timetable 1 network base file entries gate
  pub count_is : count ≡ length entries
  pub reads : (image : List ℕ) → P image
      → ReadsAs (header_of network base) (bodies_of entries) image
  pub exact : (image : List ℕ) → P image
      → image ≡ front_of (header_of network base) (bodies_of entries) ++ 0 ∷ []

-- why a journal isn't moved: the new disk has so many bytes; or it has none, and opening the old
-- one as version 1 is refused. Want of memory is told in one way alone
abbrev pub IsMoveRefused : {D E : Type 0} → Ghosts D → Ghosts E → Timetable → List ℕ → List ℕ → D
    → E → MoveFault → Type 0
IsMoveRefused new_disk old_disk timetable network base disk from (NotEmpty len) =
    IfSome (new_disk.contents disk) (λ bytes. (len ≡ length bytes) × (bytes ≢ []))
IsMoveRefused new_disk old_disk timetable network base disk from (From Memory) = ⊥
IsMoveRefused new_disk old_disk timetable network base disk from (From fault) =
    WasEmpty new_disk disk
    × IfSome (old_disk.contents from) (λ file. IsRefused timetable 1 network base file fault)
IsMoveRefused new_disk old_disk timetable network base disk from other = Unit {0}

-- nothing was written to the new disk, unless it was empty and failed
abbrev pub IsUnwritten : {D : Type 0} → Ghosts D → D → D → MoveFault → Type 0
IsUnwritten disk old new Fault = IsAsItWas disk old new ⊎ WasEmpty disk old
IsUnwritten disk old new other = IsAsItWas disk old new

-- the new disk's count rose where it failed, and the old one's where it was not read
abbrev pub HasMoveCause : ℕ → ℕ → ℕ → ℕ → MoveFault → Type 0
HasMoveCause before now old_before old_now Fault = Rose before now × (old_now ≡ old_before)
HasMoveCause before now old_before old_now (From fault) =
    (now ≡ before) × HasFaultCause old_before old_now fault
HasMoveCause before now old_before old_now other = (now ≡ before) × (old_now ≡ old_before)

-- inside: what is told where the old disk is refused
abbrev pub move_fault : OpenFault → MoveFault
move_fault Memory = no_memory
move_fault fault = From fault
