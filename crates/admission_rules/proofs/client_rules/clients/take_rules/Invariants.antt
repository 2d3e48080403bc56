use Rattle.std.proofs.Common.{◌≡◌, ◌≢◌, ℕ, List, drop, length, take}
use Rattle.admission_rules.specs.Clients.{rules_named}
use Rattle.admission_rules.proofs.client_rules.clients.take_rules.Given as goal

abbrev pub invariant-loop-one : goal.invariant-loop-one
invariant-loop-one g l = record {
  taken : l.taken.items ≡ rules_named l.client (take l.one-index l.fn.all);
  others : (other : List ℕ) → other ≢ l.client → rules_named other l.all ≡ rules_named other l.fn.all;
  rest : drop l.one-index l.all ≡ drop l.one-index l.fn.all;
  long : length l.all ≡ length l.fn.all;
}
