use Rattle.std.proofs.Common.{◌≡◌, ◌+◌, ◌*◌, All, length}
use Rattle.book_gate.specs.Passes.{view, turns_left}
use Rattle.tests_gate.specs.Passes.{IsReady, IsFresh, share}
use Rattle.tests_gate.proofs.clients.split_all.Given as goal

abbrev pub invariant-loop-number : goal.invariant-loop-number
invariant-loop-number l = record {
  ready : IsReady l.gate l.pass;
  given : share l.pass + l.number * l.turns ≡ share l.fn.pass;
  left : turns_left l.pass ≡ share l.pass;
  turns : (view l.pass).turns ≡ (view l.fn.pass).turns;
  all : All (λ c. IsFresh l.turns l.gate c.pass) l.all.items;
  count : length l.all.items ≡ l.number;
}
