-- Inside: what is told of what was carried.
use Rattle.std.specs.Prelude.{◌≡◌, ◌⊎◌, List, [], ◌∷◌, Bool, false, length, Result, Ok, Err}
use Rattle.rail_types.specs.declared.entries.Entry.{Entry}
use Rattle.command_reports.specs.Refusals.{IsTold}
use Rattle.command_reports.specs.declared.exit_status.Status.TheVariants.{No}
use Rattle.command_reports.specs.declared.refusals.Refusal.{Refusal}
use Rattle.command_reports.specs.declared.refusals.Refusal.TheVariants.{Memory}
use Rattle.carry_command.specs.declared.carried_history.carrying.Carried.{Carried}
use Rattle.carry_command.specs.declared.carried_history.reasons.LeftOut.{LeftOut}
use Rattle.carry_command.specs.declared.preparing.Prepared.{Prepared}
use Rattle.carry_command.specs.Lines.{carried_line, left_line, left_lines}

-- the journal, the lines of what was left out, and the line of the report
pub record TellsAll (old : List Entry) (may_leave : Bool) (carried : Carried) (prepared : Prepared)
    : Type 0 where
  pub file : prepared.file ≡ carried.file
  pub lines : prepared.lines ≡ left_lines old carried.left.items
  pub told : prepared.told ≡ carried_line (length carried.kept.items) (length carried.left.items)
  pub all : may_leave ≡ false → carried.left.items ≡ []

-- the line of the first that was left out
pub record TellsFirst (old : List Entry) (carried : Carried) (refusal : Refusal) : Type 0 where
  pub first : LeftOut
  pub others : List LeftOut
  pub left : carried.left.items ≡ first ∷ others
  pub told : IsTold No (left_line old first) refusal

-- all that is written of what was carried, or the first that was left out where none may be; or
-- memory was wanted
abbrev pub TellsOf : List Entry → Bool → Carried → Result Prepared Refusal → Type 0
TellsOf old may_leave carried (Ok prepared) = TellsAll old may_leave carried prepared
TellsOf old may_leave carried (Err refusal) =
    ((may_leave ≡ false) × TellsFirst old carried refusal) ⊎ (refusal ≡ Memory)
