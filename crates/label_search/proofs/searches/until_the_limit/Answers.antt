use Rattle.std.proofs.Common.{arith, ap}
use Rattle.std.proofs.lemmas.Int.{ints, clamps}
use Rattle.label_search.specs.declared.limits.Limits.{Limits}
use Rattle.label_search.specs.declared.plans.Move.{Move}
use Rattle.label_search.proofs.searches.until_the_limit.Goals as goal

pub returns-clause-to : goal.returns-clause-to
returns-clause-to c =
    let run = ap (λ (step : Move). step.run) c.step.view_is in
    let below = ap (λ (limits : Limits). limits.below) c.limits.view_is in
    omega (arith, ints, clamps, c.min.ensures.value)

pub overflow_sub-limits-inside-3 : goal.overflow_sub-limits-inside-3
overflow_sub-limits-inside-3 c =
    let run = ap (λ (step : Move). step.run) c.step.view_is in
    let below = ap (λ (limits : Limits). limits.below) c.limits.view_is in
    let short = c.requires.run in
    let near = c.requires.below in
    let ahead = c.requires.ahead in
    omega (arith, ints)
