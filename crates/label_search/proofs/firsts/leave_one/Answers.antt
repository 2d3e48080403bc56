use Rattle.std.proofs.Common.{arith, inl, refl, subst}
use Rattle.std.specs.Prelude.{ℤ, ◌≤ℤ◌}
use Rattle.std.proofs.lemmas.Int.{ints}
use Rattle.std.proofs.lemmas.Result.{on_ok_weaker}
use Rattle.label_search.specs.Paths.{place_at}
use Rattle.label_search.specs.Labels.{label_at}
use Rattle.label_search.specs.Pending.{label_arrival}
use Rattle.label_search.proofs.Advancing.{arrival_is, to_be_left}
use Rattle.label_search.proofs.firsts.leave_one.Goals as goal

pub returns-then-due-below-clause-left : goal.returns-then-due-below-clause-left
returns-then-due-below-clause-left c =
    let label = label_at c.args.search.now.labels.labels c.args.label in
    let late = c.if-due-below.true in
    inl (subst (λ (limit : ℤ). limit ≤ℤ label_arrival c.args.plan.now c.args.search.now.limits.ahead label) c.below-below.ensures
    (subst (λ (tick : ℤ). c.below-below.result.ticks ≤ℤ tick)
    (arrival_is c.args.plan.now c.args.search.now.limits.ahead label c.front-front.result (place_at c.args.plan.now c.front-front.result.place) c.ahead_by-ahead.result c.waited_at.result c.leaving-due.result.tick c.front-front.ensures refl c.ahead_by-ahead.ensures.value c.waited_at.ensures.value c.leaving-due.ensures.tick)
    (omega (arith, ints))))

pub returns-clause-left : goal.returns-clause-left
returns-clause-left c = on_ok_weaker c.push.result
    (to_be_left c.args.plan.now c.args.search.now c.push.new.self c.args.label c.leaving-due.result c.leaving-due.ensures.label c.leaving-due.ensures.work
    (arrival_is c.args.plan.now c.args.search.now.limits.ahead (label_at c.args.search.now.labels.labels c.args.label) c.front-front.result (place_at c.args.plan.now c.front-front.result.place) c.ahead_by-ahead.result c.waited_at.result c.leaving-due.result.tick c.front-front.ensures refl c.ahead_by-ahead.ensures.value c.waited_at.ensures.value c.leaving-due.ensures.tick))
    c.push.ensures.added
