use Rattle.std.proofs.Common.{◌≡◌, ◌+◌, ◌≤◌, ◌++◌, [], All, length, map, reverse}
use Rattle.std.specs.Prelude.{vec_capacity}
use Rattle.batch_pool.proofs.batches.idle.Given as goal

abbrev pub invariant-loop-worker : goal.invariant-loop-worker
invariant-loop-worker g l = record {
  count : length l.served.items + length l.workers.items ≡ length l.fn.workers.items;
  space : length l.fn.workers.items ≤ vec_capacity l.served;
  none_yet : All (λ s. s.answers ≡ []) l.served.items;
  workers : map (λ s. s.worker) l.served.items ++ reverse l.workers.items ≡ l.fn.workers.items;
}

abbrev pub decreases-loop-worker : goal.decreases-loop-worker
decreases-loop-worker g l = length l.workers.items
