-- What is carried of an old history, before anything is written.
use Rattle.std.specs.Prelude.{◌≡◌, ◌⊎◌, ℕ, List, [], ◌∷◌, ◌++◌, Bool, false, length, Result, Ok}
use Rattle.std.specs.Prelude.{Err}
use Rattle.command_reports.specs.declared.exit_status.Status.TheVariants.{No}
use Rattle.path_recover.specs.history.Legal.{Register}
use Rattle.path_recover.specs.journal.Headers.{header_of}
use Rattle.path_recover.specs.journal.Histories.{bodies_of, front_of}
use Rattle.rail_types.specs.declared.entries.Entry.{Entry}
use Rattle.rail_types.specs.Timetables.{Timetable}
use Rattle.command_files.specs.declared.bases.BaseFile.{BaseFile}
use Rattle.command_files.specs.declared.networks.NetworkFile.{NetworkFile}
use Rattle.command_reports.specs.Refusals.{IsTold}
use Rattle.command_reports.specs.declared.refusals.Refusal.{Refusal}
use Rattle.command_reports.specs.declared.refusals.Refusal.TheVariants.{Memory}
use Rattle.command_files.specs.Timetables.{timetable_on}
use Rattle.print_commands.specs.Journals.{TellsEntries}
use Rattle.carry_command.specs.Carried.{IsCarriedOf}
use Rattle.carry_command.specs.declared.carried_history.reasons.LeftOut.{LeftOut}
use Rattle.carry_command.specs.Lines.{carried_line, left_line, left_lines}
use Rattle.carry_command.specs.declared.preparing.Prepared.{Prepared}

-- The live holds and grants of an old history are carried into the timetable of these files, or
-- left out; the bytes are a journal of these files with those that are carried; and the lines tell
-- of those that are left out, none where none may be.
pub record IsPrepared (network : NetworkFile) (base : BaseFile) (old : Register) (may_leave : Bool)
    (prepared : Prepared) : Type 0 where
  pub entries : List Entry
  pub kept : List ℕ
  pub left : List LeftOut
  pub carried : IsCarriedOf (timetable_on network base) old.entries entries kept left
  pub tells : TellsEntries network base entries prepared.file
  pub exact : prepared.file
      ≡ front_of (header_of network.digest base.digest) (bodies_of entries) ++ 0 ∷ []
  pub lines : prepared.lines ≡ left_lines old.entries left
  pub told : prepared.told ≡ carried_line (length entries) (length left)
  pub all : may_leave ≡ false → left ≡ []

-- this is the first of the entries that would be left out
pub record IsFirstLeft (timetable : Timetable) (old : Register) (first : LeftOut) : Type 0 where
  pub entries : List Entry
  pub kept : List ℕ
  pub others : List LeftOut
  pub carried : IsCarriedOf timetable old.entries entries kept (first ∷ others)

-- the first entry that would be left out is told
pub record TellsLeft (timetable : Timetable) (old : Register) (refusal : Refusal) : Type 0 where
  pub first : LeftOut
  pub is_first : IsFirstLeft timetable old first
  pub told : IsTold No (left_line old.entries first) refusal

-- all that is written, or the first entry that would be left out where none may be; or memory was
-- wanted
abbrev pub Prepares : NetworkFile → BaseFile → Register → Bool → Result Prepared Refusal → Type 0
Prepares network base old may_leave (Ok prepared) =
    IsPrepared network base old may_leave prepared
Prepares network base old may_leave (Err refusal) =
    ((may_leave ≡ false) × TellsLeft (timetable_on network base) old refusal)
    ⊎ (refusal ≡ Memory)
