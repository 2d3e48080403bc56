use Rattle.std.proofs.Common.{◌≡◌, ◌-◌, length}
use Rattle.label_search.specs.Queues.{IsQueue}
use Rattle.label_search.proofs.queues.Queue.pop_before.Given as goal

abbrev pub invariant-loop-self : goal.invariant-loop-self
invariant-loop-self l = record {
  kept : l.self-inside.buckets ≡ l.initial.self-inside.buckets;
  start : l.self-inside.start ≡ l.initial.self-inside.start;
  is : IsQueue l.self-inside.buckets l.self-inside.first l.self-inside.start;
}

abbrev pub decreases-loop-self : goal.decreases-loop-self
decreases-loop-self l = length l.self-inside.buckets - l.self-inside.first
