use Rattle.std.proofs.Common.{◌∙◌, ◌-◌, ◌/◌, ◌%◌, ◌<◌, ◌≤◌, ℕ, Bor, ap, length, map, subst, sym, arith}
use Rattle.label_search.specs.Nearing.{stay_ahead}
use Rattle.std.proofs.lemmas.Nat.{mod_below}
use Rattle.label_search.specs.declared.nearing.Near.{Near}
use Rattle.label_search.proofs.Resting.{nothing_is}
use Rattle.label_search.proofs.Summing.{nothing_at_start, nothing_past, nothing_uncalled, sum_at_place}
use Rattle.label_search.proofs.nearing.sum_of_place.Goals as goal

pub returns-then-place-eq0-clause-value : goal.returns-then-place-eq0-clause-value
returns-then-place-eq0-clause-value c =
    nothing_at_start c.args.chart.now.spots c.args.calls.now (map (λ (near : Bor Near). near.now) c.args.nears.now) c.args.rests.now c.args.place c.if-place-eq0.true

pub returns-then-place-eq0-clause-ahead : goal.returns-then-place-eq0-clause-ahead
returns-then-place-eq0-clause-ahead c = nothing_is

pub returns-then-levels-eq0-clause-value : goal.returns-then-levels-eq0-clause-value
returns-then-levels-eq0-clause-value c =
    let some = c.if-place-eq0.false in
    nothing_uncalled c.args.chart.now.spots c.args.calls.now (map (λ (near : Bor Near). near.now) c.args.nears.now) c.args.rests.now c.args.place (c.args.place - 1) (omega arith)
    (sym c.len-levels.ensures ∙ c.if-levels-eq0.true)

pub returns-then-levels-eq0-clause-ahead : goal.returns-then-levels-eq0-clause-ahead
returns-then-levels-eq0-clause-ahead c = nothing_is

pub returns-then-stay-len-clause-value : goal.returns-then-stay-len-clause-value
returns-then-stay-len-clause-value c =
    let some = c.if-place-eq0.false in
    let called = c.if-levels-eq0.false in
    nothing_past c.args.chart.now.spots c.args.calls.now (map (λ (near : Bor Near). near.now) c.args.nears.now) c.args.rests.now c.args.place (c.args.place - 1) c.len-levels.result (omega arith)
    c.len-levels.ensures (omega arith) (subst (λ (count : ℕ). count ≤ (c.args.place - 1) / c.len-levels.result) c.len.ensures (subst (λ (spot : ℕ). c.len.result ≤ spot) c.stay_of-stay.ensures.spot c.if-stay-len.true))

pub returns-then-stay-len-clause-ahead : goal.returns-then-stay-len-clause-ahead
returns-then-stay-len-clause-ahead c = nothing_is

pub sum_of_stay-requires-clause-made : goal.sum_of_stay-requires-clause-made
sum_of_stay-requires-clause-made c =
    let called = c.if-levels-eq0.false in
    subst (λ (made : ℕ). made < length c.args.calls.now) (sym c.stay_of-stay.ensures.made)
    (subst (λ (levels : ℕ). (c.args.place - 1) % c.len-levels.result < levels) c.len-levels.ensures (mod_below (c.args.place - 1) c.len-levels.result (omega arith)))

pub returns-clause-value : goal.returns-clause-value
returns-clause-value c =
    let some = c.if-place-eq0.false in
    let called = c.if-levels-eq0.false in
    sum_at_place c.args.chart.now.spots c.args.calls.now (map (λ (near : Bor Near). near.now) c.args.nears.now) c.args.rests.now c.args.place (c.args.place - 1) c.len-levels.result (omega arith)
    c.len-levels.ensures (omega arith) (subst (λ (count : ℕ). (c.args.place - 1) / c.len-levels.result < count) c.len.ensures (subst (λ (spot : ℕ). spot < c.len.result) c.stay_of-stay.ensures.spot c.if-stay-len.false))
    c.sum_of_stay.result
    (c.sum_of_stay.ensures.sum
    ∙ (ap (λ (spot : ℕ). stay_ahead c.args.chart.now.spots c.args.calls.now (map (λ (near : Bor Near). near.now) c.args.nears.now) c.args.rests.now spot c.stay_of-stay.result.made) c.stay_of-stay.ensures.spot
    ∙ ap (λ (made : ℕ). stay_ahead c.args.chart.now.spots c.args.calls.now (map (λ (near : Bor Near). near.now) c.args.nears.now) c.args.rests.now ((c.args.place - 1) / c.len-levels.result) made) c.stay_of-stay.ensures.made))
