use Rattle.std.proofs.Common.{◌≡◌, take}
use Rattle.batch_command.specs.Owners.{owners_of}
use Rattle.batch_command.proofs.worker_numbers.owners.owners_of.Given as goal

abbrev pub invariant-loop-number : goal.invariant-loop-number
invariant-loop-number l =
    l.owners.items ≡ owners_of l.history.entries l.workers (take l.number-index l.numbers)
