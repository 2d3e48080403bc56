use Rattle.std.proofs.Common.{◌≡◌, ◌+◌, All, sum_by}
use Rattle.book_gate.specs.Passes.{turns_left}
use Rattle.tests_gate.specs.Passes.{IsReady, HasAdded, share}
use Rattle.tests_gate.proofs.clients.join_all.Given as goal

abbrev pub invariant-loop-client : goal.invariant-loop-client
invariant-loop-client l = record {
  ready : IsReady l.gate l.pass;
  all : All (λ c. IsReady l.gate c.pass) l.clients.items;
  joined : share l.pass + sum_by (λ c. share c.pass) l.clients.items ≡ share l.fn.pass + sum_by (λ c. share c.pass) l.fn.clients.items;
  left : turns_left l.pass + sum_by (λ c. turns_left c.pass) l.clients.items ≡ turns_left l.fn.pass + sum_by (λ c. turns_left c.pass) l.fn.clients.items;
  added : HasAdded l.pass;
  all_added : All (λ c. HasAdded c.pass) l.clients.items;
}

abbrev pub decreases-loop-client : goal.decreases-loop-client
decreases-loop-client l = goal.left-loop-client l
