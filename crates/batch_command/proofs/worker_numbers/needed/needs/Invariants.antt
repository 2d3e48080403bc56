use Rattle.std.proofs.Common.{◌≡◌, drop}
use Rattle.batch_command.specs.Owners.{needs}
use Rattle.batch_command.proofs.worker_numbers.needed.needs.Given as goal

abbrev pub invariant-loop-one : goal.invariant-loop-one
invariant-loop-one l =
    needs l.history.entries l.owner (drop l.one-index l.numbers) ≡ needs l.history.entries l.owner l.numbers
