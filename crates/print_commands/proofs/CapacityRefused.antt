-- Which statuses `capacity` never has of a history.
use Rattle.std.proofs.Common.{◌≡◌, ◌≢◌, ℕ, List, inl, inr}
use Rattle.outside_io.specs.declared.disks.Disk.{Ghosts as Disks}
use Rattle.outside_io.specs.declared.sources.Source.{Ghosts as Sources}
use Rattle.command_reports.specs.declared.exit_status.Status.{Status}
use Rattle.command_reports.specs.declared.exit_status.Status.TheVariants.{No, Memory}
use Rattle.command_reports.specs.Scenes.{Scene}
use Rattle.grant_log.specs.Legal.{Register}
use Rattle.capacity_406.specs.declared.trains.Stretch.{Stretch}
use Rattle.command_reports.specs.Refusals.{status_of}
use Rattle.command_reports.specs.declared.refusals.Refusal.{Refusal}
use Rattle.command_files.proofs.Refused.{memory_other, told_other}
use Rattle.print_commands.proofs.Printed.{IsRefused, Never}
use Rattle.print_commands.specs.Capacities.{HasNoCapacity, IsNotTold, IsWithout, TellsCapacity}

other_status : (stretch : Stretch) (other : Status) → No ≢ other → Memory ≢ other → (history : Register) (refusal : Refusal) → IsNotTold stretch history refusal → status_of refusal ≢ other
other_status stretch other differs memory history refusal (inl told) = told_other No other _ refusal told.2 differs memory
other_status stretch other differs memory history refusal (inr is) = memory_other other refusal is memory

pub capacity_never : (stretch : Stretch) (other : Status) → No ≢ other → Memory ≢ other → Never (TellsCapacity stretch) other
capacity_never stretch other differs memory = λ history refusal says. other_status stretch other differs memory history refusal says

line_by : (stretch : Stretch) (history : Register) (refusal : Refusal) → IsNotTold stretch history refusal → status_of refusal ≡ No → (line : List ℕ) × IsWithout stretch history line
line_by stretch history refusal (inl told) is_no = (told.0, told.1)
line_by stretch history refusal (inr is) is_no = absurd (memory_other No refusal is (λ e. cc) is_no)

pub has_no_capacity : {Src Snk Dsk : Type 0} (source : Sources Src) (disk : Disks Dsk) (network base journal : List ℕ) (stretch : Stretch) (old : Scene Src Snk Dsk) → IsRefused source disk network base journal (TellsCapacity stretch) No old
    → HasNoCapacity source disk network base journal stretch old
has_no_capacity source disk network base journal stretch old refused =
    let answered = refused.answered in
    let line = line_by stretch answered.history refused.refusal answered.says refused.status_is in
    record {
      history = answered.history;
      between = answered.between;
      read = answered.read;
      line = line.0;
      without = line.1;
    }
