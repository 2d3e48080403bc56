use Rattle.std.proofs.Common.{◌≡◌, ◌+◌}
use Rattle.book_gate.specs.Passes.{turns_left}
use Rattle.tests_gate.specs.Passes.{IsReady, TakesTurns, share}
use Rattle.tests_gate.proofs.clients.Client.take_turns.Given as goal

abbrev pub invariant-loop-turn : goal.invariant-loop-turn
invariant-loop-turn g l = record {
  ready : IsReady l.gate l.self.pass;
  left : turns_left l.self.pass + l._turn ≡ turns_left l.fn.self.pass;
  kept : share l.self.pass ≡ share l.fn.self.pass;
  number : l.self.number ≡ l.fn.self.number;
  taken : TakesTurns l._turn l.fn.self.pass l.self.pass;
}
