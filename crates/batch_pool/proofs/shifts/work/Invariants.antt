use Rattle.std.proofs.Common.{◌≡◌, ◌+◌, ◌≤◌, ℕ, length}
use Rattle.std.specs.Prelude.{vec_capacity}
use Rattle.crossbeam_queue.specs.Passes.{IsPassOf}
use Rattle.batch_pool.specs.Batches.{Leads, places}
use Rattle.batch_pool.specs.Hands.{knows, weigh}
use Rattle.batch_pool.specs.Shifts.{lines_of}
use Rattle.batch_pool.proofs.shifts.work.Given as goal

abbrev pub invariant-loop : goal.invariant-loop
invariant-loop g l = record {
  sound : g.W.Worker.is_sound l.shift.worker;
  pass : IsPassOf l.line l.pass;
  parts : (knows l.pass).parts ≡ (knows l.fn.pass).parts;
  put : (knows l.pass).put ≡ (knows l.fn.pass).put;
  counts : length l.shift.answers.items ≤ length (knows l.pass).taken;
  room : vec_capacity l.shift.answers ≡ vec_capacity l.fn.shift.answers;
  left : lines_of g.W.Worker.left l.fn.shift ≤ lines_of g.W.Worker.left l.shift;
  taken : (h : ℕ → ℕ) → weigh h (knows l.pass).taken + weigh h (places l.fn.shift.answers.items)
      ≡ weigh h (knows l.fn.pass).taken + weigh h (places l.shift.answers.items);
  leads : (first : _) → Leads g.W.Worker.gives l.lines first l.fn.shift.answers.items l.fn.shift.worker
      → Leads g.W.Worker.gives l.lines first l.shift.answers.items l.shift.worker;
}
