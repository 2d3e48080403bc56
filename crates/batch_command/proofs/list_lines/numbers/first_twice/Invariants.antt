use Rattle.std.proofs.Common.{◌≡◌, [], drop}
use Rattle.batch_command.specs.Numbers.{first_repeat}
use Rattle.batch_command.proofs.list_lines.numbers.first_twice.Given as goal

abbrev pub invariant-loop-one : goal.invariant-loop-one
invariant-loop-one l = first_repeat l.before.keys (drop l.one-index l.numbers) ≡ first_repeat [] l.numbers
