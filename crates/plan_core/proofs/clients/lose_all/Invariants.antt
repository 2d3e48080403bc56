use Rattle.std.proofs.Common.{◌≡◌, ℕ, ◌<◌, ◌≤◌, length, get_or}
use Rattle.plan_core.specs.Inside.{Desk}
use Rattle.plan_core.specs.Parties.{losing}
use Rattle.plan_core.proofs.clients.lose_all.Given as goal

abbrev pub invariant-loop-k : goal.invariant-loop-k
invariant-loop-k l = record {
  long : length l.clients.items ≡ length l.fn.clients.items;
  done : (j : ℕ) (d : Desk) → j < l.k → j < length l.fn.clients.items → (get_or l.clients.items j d).party ≡ losing l.at (get_or l.fn.clients.items j d).party;
  left : (j : ℕ) (d : Desk) → l.k ≤ j → j < length l.fn.clients.items → get_or l.clients.items j d ≡ get_or l.fn.clients.items j d;
}
