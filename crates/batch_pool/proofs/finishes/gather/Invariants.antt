use Rattle.std.proofs.Common.{◌≡◌, ◌+◌, ◌<◌, ◌++◌, ℕ, All, length, map, reverse}
use Rattle.std.specs.Prelude.{vec_capacity}
use Rattle.crossbeam_queue.specs.Passes.{IsPassOf}
use Rattle.batch_pool.specs.Batches.{places}
use Rattle.batch_pool.specs.Hands.{knows, weigh}
use Rattle.batch_pool.specs.Shifts.{served_of, weigh_all}
use Rattle.batch_pool.proofs.finishes.gather.Given as goal

abbrev pub invariant-loop-job : goal.invariant-loop-job
invariant-loop-job g l = record {
  pass : IsPassOf l.line l.pass;
  put : (knows l.pass).put ≡ (knows l.fn.pass).put;
  some_part : 0 < (knows l.pass).parts;
  parts : (knows l.pass).parts ≡ (knows l.fn.pass).parts + length l.served.items;
  count : length l.served.items + length l.jobs.items ≡ length l.fn.jobs.items;
  space : length l.fn.jobs.items < vec_capacity l.served;
  passes : All (λ job. IsPassOf l.line job.pass) l.jobs.items;
  parts_left : All (λ job. (knows job.pass).parts ≡ 1) l.jobs.items;
  taken_left : All (λ job. (h : ℕ → ℕ) → weigh h (knows job.pass).taken ≡ weigh h (places job.shift.answers.items)) l.jobs.items;
  taken : (h : ℕ → ℕ) → weigh h (knows l.pass).taken ≡ weigh h (knows l.fn.pass).taken + weigh_all h l.served.items;
  served : l.served.items ++ reverse (map (λ job. served_of job.shift) l.jobs.items) ≡ map (λ job. served_of job.shift) l.fn.jobs.items;
}

abbrev pub decreases-loop-job : goal.decreases-loop-job
decreases-loop-job g l = length l.jobs.items
