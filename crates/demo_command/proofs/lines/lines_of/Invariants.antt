use Rattle.std.proofs.Common.{◌≡◌, ◌<◌, ◌^◌}
use Rattle.served_clients.specs.sessions.Lines.{ended}
use Rattle.demo_command.specs.Lines.{drawn, first_lines}
use Rattle.demo_command.proofs.lines.lines_of.Given as goal

abbrev pub invariant-loop-before : goal.invariant-loop-before
invariant-loop-before l = record {
  text : l.text.items ≡ ended (first_lines l.number l.before);
  drawn_is : l.drawn ≡ drawn l.number l.before;
  small : l.drawn < 2 ^ 32;
}
