use Rattle.std.proofs.Common.{◌≤◌}
use Rattle.command_line.specs.declared.batch_words.clients.TheConstants.{MAX_WORKERS}
use Rattle.batch_command.specs.Owners.{AreEnough}
use Rattle.batch_command.proofs.worker_numbers.needed.needed_worker.Given as goal

abbrev pub invariant-loop-worker : goal.invariant-loop-worker
invariant-loop-worker l = record {
  behind : l.workers ≤ l.worker;
  within : l.worker ≤ MAX_WORKERS;
  enough : AreEnough l.history.entries l.batch l.worker l.numbers;
}

abbrev pub decreases-loop-worker : goal.decreases-loop-worker
decreases-loop-worker l = l.worker
