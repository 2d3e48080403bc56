use Rattle.std.proofs.Common.{◌≡◌, take}
use Rattle.carry_command.specs.Lines.{left_lines}
use Rattle.carry_command.proofs.lines.lines_of.Given as goal

abbrev pub invariant-loop-one : goal.invariant-loop-one
invariant-loop-one l = l.lines.held ≡ left_lines l.old.entries (take l.one-index l.left)
