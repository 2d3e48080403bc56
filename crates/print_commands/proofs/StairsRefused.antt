-- Which statuses `stairs` never has of a history.
use Rattle.std.proofs.Common.{◌≡◌, ◌≢◌, ℕ, List, Err, inl, inr}
use Rattle.outside_io.specs.declared.disks.Disk.{Ghosts as Disks}
use Rattle.outside_io.specs.declared.sources.Source.{Ghosts as Sources}
use Rattle.command_reports.specs.declared.exit_status.Status.{Status}
use Rattle.command_reports.specs.declared.exit_status.Status.TheVariants.{No, Memory}
use Rattle.command_reports.specs.Scenes.{Scene}
use Rattle.grant_log.specs.Legal.{Register}
use Rattle.command_reports.specs.Refusals.{status_of}
use Rattle.command_reports.specs.declared.refusals.Refusal.{Refusal}
use Rattle.command_files.proofs.Refused.{memory_other, told_other}
use Rattle.print_commands.proofs.Printed.{IsRefused, Never}
use Rattle.print_commands.specs.Tables.{HasNoGrant, IsNoGrant, TellsStairs}

other_status : (entry : ℕ) (other : Status) → No ≢ other → Memory ≢ other → (history : Register) (refusal : Refusal) → TellsStairs entry history (Err refusal) → status_of refusal ≢ other
other_status entry other differs memory history refusal (inl none) = told_other No other _ refusal none.told differs memory
other_status entry other differs memory history refusal (inr is) = memory_other other refusal is memory

pub stairs_never : (entry : ℕ) (other : Status) → No ≢ other → Memory ≢ other → Never (TellsStairs entry) other
stairs_never entry other differs memory = λ history refusal says. other_status entry other differs memory history refusal says

none_by : (entry : ℕ) (history : Register) (refusal : Refusal) → TellsStairs entry history (Err refusal) → status_of refusal ≡ No → IsNoGrant history entry refusal
none_by entry history refusal (inl none) is_no = none
none_by entry history refusal (inr is) is_no = absurd (memory_other No refusal is (λ e. cc) is_no)

pub has_no_grant : {Src Snk Dsk : Type 0} (source : Sources Src) (disk : Disks Dsk) (network base journal : List ℕ) (entry : ℕ) (old : Scene Src Snk Dsk) → IsRefused source disk network base journal (TellsStairs entry) No old
    → HasNoGrant source disk network base journal entry old
has_no_grant source disk network base journal entry old refused =
    let answered = refused.answered in
    record {
      history = answered.history;
      between = answered.between;
      read = answered.read;
      none = (none_by entry answered.history refused.refusal answered.says refused.status_is).none;
    }
