use Rattle.std.proofs.Common.{◌∙◌, arith, Bor, false, map, refl}
use Rattle.std.proofs.lemmas.Int.{ints}
use Rattle.label_search.specs.declared.nearing.Near.{Near}
use Rattle.label_search.specs.Charts.{spot_at}
use Rattle.label_search.proofs.Resting.{sum_there, sum_unwaited}
use Rattle.label_search.proofs.nearing.sum_of_stay.Goals as goal

pub returns-then-call-eq0-clause-sum : goal.returns-then-call-eq0-clause-sum
returns-then-call-eq0-clause-sum c =
    let nears = map (λ (near : Bor Near). near.now) c.args.nears.now in
    let standing = (spot_at c.args.chart.now.spots c.args.spot).standing in
    let none = c.if-call-eq0.true in
    c.sum_of.ensures.sum
    ∙ (sum_unwaited false standing c.call_of-call.result.now c.near_of-near.result.now c.ahead_at-rest.result c.args.spot (omega (arith, ints))
    ∙ sum_there c.args.chart.now.spots c.args.calls.now nears c.args.rests.now c.args.spot c.args.made standing c.call_of-call.result.now c.near_of-near.result.now c.ahead_at-rest.result
    refl c.call_of-call.ensures.call c.near_of-near.ensures c.ahead_at-rest.ensures.value)

pub returns-clause-sum : goal.returns-clause-sum
returns-clause-sum c =
    let nears = map (λ (near : Bor Near). near.now) c.args.nears.now in
    c.sum_of-2.ensures.sum
    ∙ sum_there c.args.chart.now.spots c.args.calls.now nears c.args.rests.now c.args.spot c.args.made c.stands_at.result c.call_of-call.result.now c.near_of-near.result.now c.ahead_at-rest.result
    c.stands_at.ensures c.call_of-call.ensures.call c.near_of-near.ensures c.ahead_at-rest.ensures.value
