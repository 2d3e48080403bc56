use Rattle.std.proofs.Common.{arith, ap}
use Rattle.std.proofs.lemmas.Int.{ints, clamps}
use Rattle.label_search.specs.declared.plans.Place.{Place}
use Rattle.label_search.specs.declared.plans.Plan.{Plan}
use Rattle.label_search.proofs.searches.ready_ticks.Goals as goal

pub returns-clause-from : goal.returns-clause-from
returns-clause-from c =
    let dwell = ap (λ (place : Place). place.dwell) c.place.view_is in
    let short = c.requires.dwell in
    let near = c.requires.near in
    omega (arith, ints)

pub returns-clause-to : goal.returns-clause-to
returns-clause-to c =
    let horizon = ap (λ (plan : Plan). plan.horizon) c.plan.view_is in
    let near = c.requires.near in
    omega (arith, ints, clamps, c.min.ensures.value)
