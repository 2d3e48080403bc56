use Rattle.std.proofs.Common.{◌≡◌, drop}
use Rattle.batch_command.specs.Owners.{owner_from}
use Rattle.batch_command.proofs.worker_numbers.owners.first_owner.Given as goal

abbrev pub invariant-loop-worker : goal.invariant-loop-worker
invariant-loop-worker l = record {
  place : l.at ≡ l.worker-index;
  rest : owner_from l.history.entries l.at (drop l.worker-index l.workers) l.number
      ≡ owner_from l.history.entries 0 l.workers l.number;
}
