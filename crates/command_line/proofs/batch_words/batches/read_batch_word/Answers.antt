use Rattle.std.proofs.Common.{◌≡◌, ◌∙◌, ◌<◌, ◌^◌, ℕ, arith, rules, subst, sym}
use Rattle.std.proofs.lemmas.Fmt.{decimal_injective}
use Rattle.command_line.specs.declared.client_words.clients.ClientWord.{ClientWord}
use Rattle.command_line.proofs.NamingClients.{names_once}
use Rattle.command_line.specs.Workers.{AreWorkerRules, AreWorkers}
use Rattle.command_line.proofs.batch_words.batches.read_batch_word.Goals as goal

workers_small : (workers : ℕ) → AreWorkers workers → workers < 2 ^ 64
workers_small workers are = omega (arith, are.few)

pub returns-in_default-clause-refused : goal.returns-in_default-clause-refused
returns-in_default-clause-refused c is one many all batch client workers rules = c.in_default.ensures.none many batch.some workers

pub returns-in-Err-read_worker_rules-clause-refused : goal.returns-in-Err-read_worker_rules-clause-refused
returns-in-Err-read_worker_rules-clause-refused c is one many all batch client workers texts =
    let same : one ≡ c.in-Ok.client = names_once one c.in-Ok.client batch.named.formed c.in-Ok.ensures.understood.formed (client ∙ sym c.in-Ok.ensures.spelled) in
    let as_many : many ≡ c.in-Some.workers = decimal_injective _ _ (workers_small _ batch.some) (workers_small _ c.in-Some.ensures.within) (sym workers ∙ c.in-Some.ensures.spelled) in
    c.in-Err-read_worker_rules.ensures.refused (search rules) all
    (subst (λ (n : ℕ). AreWorkerRules c.in-Ok.client.client n all) as_many (subst (λ (word : ClientWord). AreWorkerRules word.client many all) same batch.ruled)) texts
