use Rattle.std.proofs.Common.{◌≡◌, ◌∙◌, ◌<◌, ◌^◌, ℕ, arith, sym}
use Rattle.std.proofs.lemmas.Fmt.{decimal_injective}
use Rattle.command_line.specs.Workers.{AreWorkers}
use Rattle.command_line.proofs.batch_words.clients.read_workers.Goals as goal

workers_small : (workers : ℕ) → AreWorkers workers → workers < 2 ^ 64
workers_small workers are = omega (arith, are.few)

-- a text spells one number
pub returns-then-workers-eq0-clause-none : goal.returns-then-workers-eq0-clause-none
returns-then-workers-eq0-clause-none c workers are spelled =
    let same : c.in_ok-workers.workers ≡ workers = decimal_injective _ _ (omega (arith, c.in_ok-workers.ensures.within)) (workers_small workers are) (sym c.in_ok-workers.ensures.spelled ∙ spelled) in
    omega (arith, same, are.some, c.if-workers-eq0.true)
