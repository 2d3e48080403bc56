-- What is reported of lists that are refused.
use Rattle.std.specs.Prelude.{◌≡◌, ℕ, List, [], ◌∷◌, ◌++◌, codes, decimal}
use Rattle.command_reports.specs.Refusals.{IsTold}
use Rattle.command_reports.specs.declared.refusals.Refusal.{Refusal}
use Rattle.command_reports.specs.declared.refusals.Refusal.TheVariants as refusal
use Rattle.command_reports.specs.declared.exit_status.Status.TheVariants.{ClientEnd}
use Rattle.served_clients.specs.sessions.declared.sessions.Why.{Why}
use Rattle.served_clients.specs.sessions.declared.sessions.Why.TheVariants as why
use Rattle.batch_command.specs.declared.list_lines.lists.ListFault.{ListFault}
use Rattle.batch_command.specs.declared.list_lines.lists.ListFault.TheVariants.{ReadFault, LongLine}
use Rattle.batch_command.specs.declared.list_lines.lists.ListFault.TheVariants.{LineCount}
use Rattle.batch_command.specs.declared.list_lines.lists.ListFault.TheVariants.{Memory}
use Rattle.served_clients.specs.Ends.{end_line}

-- the line of this number, counted from 1, does not ask for a path
abbrev pub no_ask_line : ℕ → List ℕ
no_ask_line line = codes "line " ++ decimal line ++ codes " is no ask" ++ 10 ∷ []

-- two lines have this number
abbrev pub twice_line : ℕ → List ℕ
twice_line number = codes "number " ++ decimal number ++ codes " twice" ++ 10 ∷ []

-- a line is that of a worker with this number
abbrev pub needed_line : ℕ → List ℕ
needed_line worker = codes "workers needed " ++ decimal worker ++ 10 ∷ []

-- the line of a batch that ended before its first reply
abbrev pub stop_line : List ℕ → Why → List ℕ
stop_line batch why = end_line (codes "batch ") batch (record { lines = 0; why = why })

-- what is reported of a list that was not read
abbrev pub TellsStop : List ℕ → ListFault → Refusal → Type 0
TellsStop batch ReadFault result = IsTold ClientEnd (stop_line batch why.ReadFault) result
TellsStop batch LongLine result = IsTold ClientEnd (stop_line batch why.LongLine) result
TellsStop batch LineCount result = IsTold ClientEnd (stop_line batch why.LineCount) result
TellsStop batch Memory result = result ≡ refusal.Memory
