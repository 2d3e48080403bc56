use Rattle.std.proofs.Common.{arith, ap}
use Rattle.std.proofs.lemmas.Int.{ints}
use Rattle.label_search.specs.declared.plans.Move.{Move}
use Rattle.label_search.proofs.firsts.move_behind.Goals as goal

pub returns-clause-tick : goal.returns-clause-tick
returns-clause-tick c =
    let run = ap (λ (step : Move). step.run) c.step.view_is in
    let near = c.requires.near in
    let short = c.requires.run in
    let ahead = c.requires.ahead in
    omega (arith, ints)
