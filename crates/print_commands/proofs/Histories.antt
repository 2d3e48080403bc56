-- What was read of a disk, told by the files of its timetable.
use Rattle.std.proofs.Common.{◌≡◌, ℕ, List, Some, subst}
use Rattle.std.specs.Prelude.{IfSome}
use Rattle.outside_io.specs.declared.disks.Disk.{Ghosts as Disks}
use Rattle.rail_types.specs.declared.entries.Entry.{Entry}
use Rattle.rail_types.specs.Timetables.{Timetable}
use Rattle.path_recover.specs.declared.journal_reading.faults.OpenFault.{OpenFault}
use Rattle.path_recover.specs.Failing.{HasFaultCause, IsOnlyRead, IsUnread}
use Rattle.path_recover.specs.Files.{IsFound, IsRefused, TellsHistory}
use Rattle.path_recover.proofs.Reopened.{if-more}
use Rattle.command_files.specs.declared.bases.BaseFile.{BaseFile}
use Rattle.command_files.specs.declared.networks.NetworkFile.{NetworkFile}
use Rattle.command_files.specs.Timetables.{timetable_on}
use Rattle.print_commands.specs.Journals.{IsHistoryOn, IsRefusedOn, TellsEntries}

-- what is found in a file is the history that it tells
abbrev pub FoundIsTold : Type 0
FoundIsTold = (timetable : Timetable) (version : ℕ) (network base file : List ℕ) (entries : List Entry) (gate : ℕ) → IsFound timetable version network base file entries gate → TellsHistory timetable version network base file entries

pub history_on_disk : {D : Type 0} (disk : Disks D) (network : NetworkFile) (base : BaseFile) (timetable : Timetable) (entries : List Entry) (gate : ℕ) (before after : D) → FoundIsTold → timetable ≡ timetable_on network base
    → IfSome (disk.contents before) (λ file. IsFound timetable 2 network.digest base.digest file entries gate) → ((image : List ℕ) → disk.images after image → disk.contents before ≡ Some image) → IsOnlyRead disk before after
    → disk.faults after ≡ disk.faults before → IsHistoryOn disk network base entries before after
history_on_disk disk network base timetable entries gate before after told same found synced read quiet = record {
  tells =
      if-more (λ file. IsFound timetable 2 network.digest base.digest file entries gate) (TellsEntries network base entries) (disk.contents before)
      (λ file is. subst (λ (t : Timetable). TellsHistory t 2 network.digest base.digest file entries) same (told timetable 2 network.digest base.digest file entries gate is)) found;
  synced = synced;
  read = read;
  quiet = quiet;
}

pub refused_on_disk : {D : Type 0} (disk : Disks D) (network : NetworkFile) (base : BaseFile) (timetable : Timetable) (fault : OpenFault) (before after : D) → timetable ≡ timetable_on network base
    → IfSome (disk.contents before) (λ file. IsRefused timetable 2 network.digest base.digest file fault)
    → IfSome (disk.contents before) (λ file. (entries : List Entry) → TellsHistory timetable 2 network.digest base.digest file entries → IsUnread fault)
    → IsOnlyRead disk before after → HasFaultCause (disk.faults before) (disk.faults after) fault → IsRefusedOn disk network base fault before after
refused_on_disk disk network base timetable fault before after same refused whole read cause = record {
  refused = subst (λ (t : Timetable). IfSome (disk.contents before) (λ file. IsRefused t 2 network.digest base.digest file fault)) same refused;
  whole = subst (λ (t : Timetable). IfSome (disk.contents before) (λ file. (entries : List Entry) → TellsHistory t 2 network.digest base.digest file entries → IsUnread fault)) same whole;
  read = read;
  cause = cause;
}
