use Rattle.std.proofs.Common.{◌∙◌, arith, sym, subst}
use Rattle.std.specs.Prelude.{◌+ℤ◌}
use Rattle.std.proofs.lemmas.Int.{ints}
use Rattle.label_search.specs.declared.plans.Target.{Target}
use Rattle.label_search.specs.Plans.{IsTarget}
use Rattle.label_search.specs.Search.{IsAdmitted}
use Rattle.label_search.proofs.searches.is_known.Goals as goal

pub returns-then-enters : goal.returns-then-enters
returns-then-enters c known trip enter held = let low = held.0 in let high = held.1 in absurd (omega (arith, ints, c.if-enters.true))

pub have_come-requires-clause-place : goal.have_come-requires-clause-place
have_come-requires-clause-place c = subst (λ (t : Target). IsTarget c.args.search.now.labels.places t) (sym c.target.ensures ∙ c.in-Place.is) c.requires.target

pub returns-in-Place : goal.returns-in-Place
returns-in-Place c known trip enter held =
    let low = held.0 in let high = held.1 in let first = c.later.ensures.from in let last = c.later.ensures.to in
    subst (λ (t : Target). IsAdmitted trip c.args.search.now t (enter +ℤ c.args.step.now.run)) (sym (sym c.target.ensures ∙ c.in-Place.is))
    (c.have_come.ensures known (enter +ℤ c.args.step.now.run) (omega (arith, ints), omega (arith, ints)))
