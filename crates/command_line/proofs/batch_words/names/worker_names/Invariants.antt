use Rattle.std.proofs.Common.{◌≡◌}
use Rattle.command_line.specs.Workers.{worker_names as names_of_workers}
use Rattle.command_line.proofs.batch_words.names.worker_names.Given as goal

abbrev pub invariant-loop-worker : goal.invariant-loop-worker
invariant-loop-worker l = l.names ≡ names_of_workers l.name l.worker
