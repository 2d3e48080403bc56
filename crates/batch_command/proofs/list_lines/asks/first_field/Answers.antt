use Rattle.std.proofs.Common.{sym}
use Rattle.batch_command.proofs.Fields.{first_cut, first_whole}
use Rattle.batch_command.proofs.list_lines.asks.first_field.Goals as goal

pub returns-in-Some : goal.returns-in-Some
returns-in-Some c = sym (first_cut _ _ _ c.in-Some.ensures.found)

pub returns-in-None : goal.returns-in-None
returns-in-None c = sym (first_whole _ c.in-None.ensures.absent)
