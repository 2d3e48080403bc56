use Rattle.std.proofs.Common.{◌∙◌, ℕ, List, [], Option, IfNone, IfSome, inl, inr, refl, sym, ap, subst}
use Rattle.batch_command.specs.Flaws.{needed_line, no_ask_line, twice_line}
use Rattle.batch_command.specs.Asked.{HasNeed, HasTwice}
use Rattle.batch_command.specs.Numbers.{first_repeat}
use Rattle.batch_command.specs.Owners.{AreEnough, IsNeeded}
use Rattle.batch_command.proofs.flaws.numbers_asked.Goals as goal

pub returns-in-Some-clause-flaw : goal.returns-in-Some-clause-flaw
returns-in-Some-clause-flaw c =
    let line : ℕ = c.in-Some.line in
    inl (no_ask_line line, inl (line, record { first = sym c.in-Some.ensures }, refl), c.no_ask.ensures)

pub returns-in-Ok-Some-clause-flaw : goal.returns-in-Ok-Some-clause-flaw
returns-in-Ok-Some-clause-flaw c =
    let number : ℕ = c.in-Ok-Some.number in
    let twice : HasTwice c.args.known.now c.args.lines.now number = record {
      numbers = c.in-Ok.numbers.items;
      asks = sym c.in_default.ensures;
      numbered = c.in-Ok.ensures;
      repeats = sym (ap (first_repeat []) c.deref.ensures.value) ∙ (sym c.in-Ok-Some.ensures ∙ c.in-Ok-Some.field-0-is);
    } in
    inl (twice_line number, inr (inl (number, twice, refl)), c.number_twice.ensures)

pub returns-in-Err-clause-flaw : goal.returns-in-Err-clause-flaw
returns-in-Err-clause-flaw c = inr refl

pub returns-in-Ok-None-needed_worker-clause-asked : goal.returns-in-Ok-None-needed_worker-clause-asked
returns-in-Ok-None-needed_worker-clause-asked c =
    let Enough : List (Option ℕ) → Type 0 = λ numbers. AreEnough c.args.history.now.entries c.args.batch.now c.args.workers numbers in
    record {
      asks = sym c.in_default.ensures;
      numbered = c.in-Ok.ensures;
      differ = sym (ap (first_repeat []) c.deref.ensures.value) ∙ (sym c.in-Ok-None.ensures ∙ c.in-Ok-None.field-0-is);
      enough = subst Enough c.deref-2.ensures.value (subst (λ (needed : Option ℕ). IfNone needed (Enough c.deref-2.result.now)) c.in-Ok-None-needed_worker.field-0-is c.in-Ok-None-needed_worker.ensures.enough);
    }

pub returns-in-Ok-Some-needed_worker-clause-flaw : goal.returns-in-Ok-Some-needed_worker-clause-flaw
returns-in-Ok-Some-needed_worker-clause-flaw c =
    let worker : ℕ = c.in-Ok-Some-needed_worker.worker in
    let Needed : List (Option ℕ) → ℕ → Type 0 = λ numbers. IsNeeded c.args.history.now.entries c.args.batch.now c.args.workers numbers in
    let need : HasNeed c.args.known.now c.args.batch.now c.args.workers c.args.history.now.entries c.args.lines.now worker = record {
      numbers = c.in-Ok.numbers.items;
      asks = sym c.in_default.ensures;
      numbered = c.in-Ok.ensures;
      differ = sym (ap (first_repeat []) c.deref.ensures.value) ∙ (sym c.in-Ok-None.ensures ∙ c.in-Ok-None.field-0-is);
      needed = subst (λ (numbers : List (Option ℕ)). Needed numbers worker) c.deref-2.ensures.value
          (subst (λ (needed : Option ℕ). IfSome needed (Needed c.deref-2.result.now)) c.in-Ok-Some-needed_worker.field-0-is c.in-Ok-Some-needed_worker.ensures.needed);
    } in
    inl (needed_line worker, inr (inr (worker, need, refl)), c.workers_needed.ensures)
