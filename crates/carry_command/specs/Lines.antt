-- The lines of entries that are left out, and of the report.
use Rattle.std.specs.Prelude.{ℕ, List, [], ◌++◌, Option, None, Some, codes, decimal, slice_get}
use Rattle.std.specs.List.{flat_map}
use Rattle.json_fields.specs.Escapes.{escaped}
use Rattle.rail_types.specs.declared.entries.Entry.{Entry}
use Rattle.command_reports.specs.Refusals.{line_with}
use Rattle.carry_command.specs.declared.carried_history.reasons.LeftOut.{LeftOut}
use Rattle.carry_command.specs.declared.carried_history.reasons.Reason.{Reason}
use Rattle.carry_command.specs.declared.carried_history.reasons.Reason.TheVariants.{ByBase, ByEntry}
use Rattle.carry_command.specs.declared.carried_history.reasons.Reason.TheVariants.{Breaks}

-- words, and a number behind them
abbrev pub said : List ℕ → ℕ → List ℕ
said word number = word ++ decimal number

-- why an entry is left out
abbrev pub reason_text : Reason → List ℕ
reason_text (ByBase zone train) =
    said (codes " taken zone ") zone ++ said (codes " by base ") train
reason_text (ByEntry zone entry) =
    said (codes " taken zone ") zone ++ said (codes " by entry ") entry
reason_text (Breaks broken) =
    said (codes " breaks run ") broken.run ++ said (codes " rule ") broken.rule

-- an entry by its position, its owner and its number, and why it is left out
abbrev pub entry_text : ℕ → Entry → Reason → List ℕ
entry_text at entry reason =
    decimal at ++ (codes " owner " ++ (escaped entry.owner
    ++ (said (codes " number ") entry.number ++ reason_text reason)))

-- the same of the entry that stands at that position
abbrev pub entry_text_at : ℕ → Option Entry → Reason → List ℕ
entry_text_at at None reason = []
entry_text_at at (Some entry) reason = entry_text at entry reason

-- the line of an entry that is left out of these
abbrev pub left_line : List Entry → LeftOut → List ℕ
left_line old one =
    line_with (codes "entry ") (entry_text_at one.at (slice_get old one.at) one.reason)

-- the lines of those that are left out, in their order
abbrev pub left_lines : List Entry → List LeftOut → List ℕ
left_lines old left = flat_map (left_line old) left

-- the line that is reported: how many entries were carried, and how many left out
abbrev pub carried_line : ℕ → ℕ → List ℕ
carried_line carried left =
    line_with (codes "carried ") (decimal carried ++ said (codes " left ") left)
