use Rattle.std.proofs.Common.{◌≤◌, ◌∙◌, ℕ, List, All, length, ap, subst, sym, arith}
use Rattle.rail_types.specs.declared.limits.TheConstants.{MAX_OWNER_BYTES}
use Rattle.batch_command.proofs.Workers.{names_many, names_short}
use Rattle.batch_command.proofs.lists.owners_by.Goals as goal

pub owners_of-requires-clause-names : goal.owners_of-requires-clause-names
owners_of-requires-clause-names c =
    subst (λ (names : List (List ℕ)). All (λ name. length name ≤ MAX_OWNER_BYTES) names) (sym (c.as_slice.ensures ∙ c.in_ok-names.ensures)) (names_short c.args.batch.now c.args.workers c.requires.name)

pub owners_of-requires-clause-few : goal.owners_of-requires-clause-few
owners_of-requires-clause-few c =
    let long = ap length (c.as_slice.ensures ∙ c.in_ok-names.ensures) ∙ names_many c.args.batch.now c.args.workers in
    let few = c.requires.workers.few in omega arith
