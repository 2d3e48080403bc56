use Rattle.std.proofs.Common.{◌≡◌, ◌+◌, ◌-◌, ◌≤◌, ◌++◌, [], All, length, map, reverse}
use Rattle.std.specs.Prelude.{vec_capacity}
use Rattle.crossbeam_queue.specs.Passes.{IsPassOf}
use Rattle.batch_pool.specs.Hands.{hand, knows}
use Rattle.batch_pool.specs.Shifts.{IsReady}
use Rattle.batch_pool.proofs.jobs.split_all.Given as goal

abbrev pub invariant-loop-worker : goal.invariant-loop-worker
invariant-loop-worker g l = record {
  pass : IsPassOf l.line l.pass;
  hand_is : knows l.pass ≡ hand (1024 - length l.jobs.items) l.todo [];
  count : length l.jobs.items + length l.workers.items ≡ length l.fn.workers.items;
  rooms : length l.rooms.items ≡ length l.workers.items;
  empty : All (λ room. room.items ≡ []) l.rooms.items;
  room : All (λ room. vec_capacity room ≡ length l.todo) l.rooms.items;
  space : length l.fn.workers.items ≤ vec_capacity l.jobs;
  passes : All (λ job. IsPassOf l.line job.pass) l.jobs.items;
  ready : All (IsReady l.todo) l.jobs.items;
  workers : map (λ job. job.shift.worker) l.jobs.items ++ reverse l.workers.items ≡ l.fn.workers.items;
}

abbrev pub decreases-loop-worker : goal.decreases-loop-worker
decreases-loop-worker g l = length l.workers.items
