use Rattle.std.proofs.Common.{◌≡◌, ◌+◌, drop}
use Rattle.batch_command.specs.Asks.{first_no_ask}
use Rattle.batch_command.proofs.list_lines.asks.first_no_ask.Given as goal

abbrev pub invariant-loop-line : goal.invariant-loop-line
invariant-loop-line l = record {
  number : l.number ≡ l.line-index + 1;
  rest : first_no_ask l.number (drop l.line-index l.lines) ≡ first_no_ask 1 l.lines;
}
