use Rattle.std.proofs.Common.{take}
use Rattle.batch_command.specs.Numbers.{AreNumbered}
use Rattle.batch_command.proofs.list_lines.numbers.numbers_of.Given as goal

abbrev pub invariant-loop-line : goal.invariant-loop-line
invariant-loop-line l = AreNumbered l.known (take l.line-index l.lines) l.numbers.items
