use Rattle.std.proofs.Common.{◌≡◌}
use Rattle.book_gate.specs.Passes.{IsOf}
use Rattle.book_gate.proofs.gates.Gate.wait.Given as goal

abbrev pub invariant-loop : goal.invariant-loop
invariant-loop g l = record {
  own : IsOf g.S.Stands.footing l.fn.self l.pass;
  same : l.pass.seat.me ≡ l.fn.pass.seat.me;
}
