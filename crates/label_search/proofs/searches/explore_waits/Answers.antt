use Rattle.std.proofs.Common.{◌<◌, arith, refl, sym, subst}
use Rattle.std.specs.Prelude.{ℤ, pos, ◌+ℤ◌, false}
use Rattle.free_windows.specs.Free.{Holds}
use Rattle.label_search.specs.Labels.{IsReached}
use Rattle.std.specs.Int.{int_gap}
use Rattle.std.proofs.lemmas.Int.{ints}
use Rattle.label_search.proofs.Covers.{reached_more}
use Rattle.label_search.proofs.Growth.{further_more, front_further}
use Rattle.label_search.proofs.Waiting.{ready_within, waited, waits_more, waits_all}
use Rattle.label_search.proofs.Gaps.{gap_smaller}
use Rattle.label_search.proofs.Looking.{dwell_of_wait, pieces_of_wait}
use Rattle.label_search.proofs.searches.explore_waits.Goals as goal

pub returns-then-free-front-clause-explored : goal.returns-then-free-front-clause-explored
returns-then-free-front-clause-explored c =
    let dwell = (c.requires.plan.places _ _ c.requires.front.place).dwell in
    let old = c.loop-free.invariant in
    let late = c.if-free-front.true in
    waits_all c.args.plan.now c.args.book.now c.args.front.now _ c.place_at-place.ensures _ c.waits.ensures c.loop-free.rest c.requires.front.ticks.0 old.from old.to dwell.0 c.loop-free.search old.explored old.at_once
    (λ tick held behind within. let high = held.1 in c.in-Some.ensures.found.before tick behind (omega (arith, ints)))

pub ready_ticks-requires-clause-near : goal.ready_ticks-requires-clause-near
ready_ticks-requires-clause-near c =
    let low = c.requires.front.ticks.0 in
    let old = c.loop-free.invariant in let from = old.from in let to = old.to in
    let next = c.in-Some.ensures.found in let first = next.from in let some = next.ticks in let last = next.to in
    let horizon = c.requires.plan.horizon in
    ((omega (arith, ints), omega (arith, ints)), (omega (arith, ints), omega (arith, ints)))

pub wait-requires-clause-ticks : goal.wait-requires-clause-ticks
wait-requires-clause-ticks c =
    let dwell = (c.requires.plan.places _ _ c.requires.front.place).dwell in
    let old = c.loop-free.invariant in
    ready_within c.args.plan.now c.args.book.now c.args.front.now _ c.place_at-place.ensures _ c.waits.ensures c.loop-free.rest c.requires.front.ticks.0 old.from old.to dwell.0 _ c.in-Some.ensures.found _ c.ready_ticks.ensures.from c.ready_ticks.ensures.to

pub wait-requires-clause-waited : goal.wait-requires-clause-waited
wait-requires-clause-waited c =
    let dwell = (c.requires.plan.places _ _ c.requires.front.place).dwell in
    let old = c.loop-free.invariant in
    let early = c.if-free-front.false in
    let here = front_further c.args.plan.now _ _ c.args.front.now old.further c.requires.front in
    let reached : (tick : ℤ) → Holds c.args.front.now.ticks tick → IsReached c.loop-free.search.labels.labels c.args.front.now.place false tick = λ tick held. subst (λ r. IsReached c.loop-free.search.labels.labels c.args.front.now.place r tick) c.requires.arrived (here.reached tick held) in
    waited c.args.plan.now c.args.book.now c.args.front.now _ c.place_at-place.ensures _ c.waits.ensures c.loop-free.rest c.requires.front.ticks.0 old.from old.to dwell.0 _ c.in-Some.ensures.found _ c.ready_ticks.ensures.from c.ready_ticks.ensures.to c.loop-free.search.labels.labels c.requires.standing (omega (arith, ints)) reached

pub returns-in_err-wait-clause-further : goal.returns-in_err-wait-clause-further
returns-in_err-wait-clause-further c = further_more _ _ _ c.loop-free.invariant.further c.in_err-wait.ensures.further

pub loop-free-smaller : goal.loop-free-smaller
loop-free-smaller c =
    let next = c.in-Some.ensures.found in let first = next.from in let some = next.ticks in let last = next.to in
    let after = c.behind-rest.ensures.from in
    let same = c.behind-rest.ensures.to in
    subst (λ to. int_gap c.behind-rest.result.from (to +ℤ pos 1) < int_gap c.loop-free.rest.from (c.loop-free.rest.to +ℤ pos 1)) (sym same) (gap_smaller c.loop-free.rest.from c.behind-rest.result.from _ (omega (arith, ints)) (omega (arith, ints)))

pub loop-free-preserved : goal.loop-free-preserved
loop-free-preserved c =
    let dwell = (c.requires.plan.places _ _ c.requires.front.place).dwell in
    let old = c.loop-free.invariant in
    let next = c.in-Some.ensures.found in let first = next.from in let some = next.ticks in let from = old.from in let to = old.to in
    let after = c.behind-rest.ensures.from in let same = c.behind-rest.ensures.to in
    record {
      search = c.wait.ensures.search;
      further = further_more _ _ _ old.further c.wait.ensures.further;
      from = omega (arith, ints);
      to = omega (arith, ints);
      at_once = λ none tick held. reached_more (λ one. Unit {0}) _ _ _ _ tick c.wait.ensures.further.grown (old.at_once none tick held);
      explored = waits_more c.args.plan.now c.args.book.now c.args.front.now _ c.place_at-place.ensures _ c.waits.ensures c.loop-free.rest c.requires.front.ticks.0 old.from old.to dwell.0 _ next _ c.ready_ticks.ensures.from c.ready_ticks.ensures.to _ _ c.wait.ensures.further old.explored c.in_ok-wait.ensures.reached _ after;
    }

pub returns-clause-explored : goal.returns-clause-explored
returns-clause-explored c =
    let dwell = (c.requires.plan.places _ _ c.requires.front.place).dwell in
    let old = c.loop-free.invariant in
    waits_all c.args.plan.now c.args.book.now c.args.front.now _ c.place_at-place.ensures _ c.waits.ensures c.loop-free.rest c.requires.front.ticks.0 old.from old.to dwell.0 c.loop-free.search old.explored old.at_once
    (λ tick held behind within. c.in_default.ensures.none refl tick (behind, within))

pub wait-requires-clause-front : goal.wait-requires-clause-front
wait-requires-clause-front c = front_further c.args.plan.now _ _ c.args.front.now c.loop-free.invariant.further c.requires.front

pub loop-free-init : goal.loop-free-init
loop-free-init c =
    let from = c.until_the_horizon-rest.ensures.from in
    record {
      search = c.go_on_at_once.ensures.search;
      further = c.go_on_at_once.ensures.further;
      from = omega (arith, ints);
      to = c.until_the_horizon-rest.ensures.to;
      at_once = c.in_ok-go_on_at_once.ensures.reached;
      explored = λ tick enter held early behind within later fits. let low = held.0 in absurd (omega (arith, ints));
    }

pub next_start_near-requires-clause-pieces : goal.next_start_near-requires-clause-pieces
next_start_near-requires-clause-pieces c = pieces_of_wait c.args.plan.now c.args.book.now c.requires.plan c.args.front.now.place c.requires.front.place c.place_at-place.result c.place_at-place.ensures c.waits.result.now c.waits.ensures

pub next_start_near-requires-clause-within : goal.next_start_near-requires-clause-within
next_start_near-requires-clause-within c =
    let low = c.requires.front.ticks.0 in let horizon = c.requires.plan.horizon in
    let from = c.loop-free.invariant.from in let to = c.loop-free.invariant.to in
    (omega (arith, ints), omega (arith, ints))

pub ready_ticks-requires-clause-dwell : goal.ready_ticks-requires-clause-dwell
ready_ticks-requires-clause-dwell c = dwell_of_wait c.args.plan.now c.args.book.now c.requires.plan c.args.front.now.place c.requires.front.place c.place_at-place.result c.place_at-place.ensures

pub behind-rest-requires : goal.behind-rest-requires
behind-rest-requires c =
    let last = c.in-Some.ensures.found.to in let to = c.loop-free.invariant.to in
    let horizon = c.requires.plan.horizon in
    record { near = omega (arith, ints) }
