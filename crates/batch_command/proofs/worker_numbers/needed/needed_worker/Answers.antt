use Rattle.std.proofs.Common.{◌≡◌, ◌∙◌, ◌-◌, List, ℕ, ap, arith, false, sym}
use Rattle.command_line.specs.Workers.{worker_name}
use Rattle.batch_command.specs.Owners.{needs}
use Rattle.batch_command.proofs.Enough.{enough_with}
use Rattle.batch_command.proofs.worker_numbers.needed.needed_worker.Goals as goal

pub loop-worker-preserved : goal.loop-worker-preserved
loop-worker-preserved c =
    let entries = c.args.history.now.entries in
    let batch = c.args.batch.now in
    let numbers = c.args.numbers.now in
    let worker = c.loop-worker.worker in
    let none : needs entries (worker_name batch worker) numbers ≡ false =
    ap (λ (owner : List ℕ). needs entries owner numbers) (sym c.in_ok-owner.ensures)
    ∙ sym c.if-needs.ensures in
    record {
      behind = omega arith;
      within = omega arith;
      enough = enough_with entries batch (worker - 1) worker numbers (omega arith) none c.loop-worker.invariant.enough;
    }

pub returns-clause-enough : goal.returns-clause-enough
returns-clause-enough c other behind within =
    c.loop-worker.invariant.enough other (omega arith) within
