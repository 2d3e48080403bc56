use Rattle.std.specs.Prelude.{ℕ, ◌≤◌, ◌<◌}
use Rattle.label_search.specs.declared.queues.Due.{Due}
use Rattle.label_search.specs.Queues.{Waits}
use Rattle.label_search.specs.Pending.{IsToBeLeft}
use Rattle.label_search.proofs.firsts.leave_later.Given as goal

abbrev pub invariant-loop-label : goal.invariant-loop-label
invariant-loop-label l = record {
  kept : (due : Due) → Waits l.fn.queue due → Waits l.queue due;
  left : (label : ℕ) → l.from ≤ label → label < l.label → IsToBeLeft l.plan l.search l.queue label;
}
