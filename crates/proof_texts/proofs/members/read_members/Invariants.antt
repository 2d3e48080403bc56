use Rattle.std.proofs.Common.{◌≡◌, ◌≤◌, ◌-◌, length}
use Rattle.proof_texts.specs.Lines.{members_at, with_front}
use Rattle.proof_texts.proofs.members.read_members.Given as goal

abbrev pub invariant-loop : goal.invariant-loop
invariant-loop l = record {
  read : with_front l.members (members_at l.known (l.count - l.counter) l.lines) ≡ members_at l.known l.count l.fn.lines;
  shorter : length l.lines ≤ length l.fn.lines;
}
