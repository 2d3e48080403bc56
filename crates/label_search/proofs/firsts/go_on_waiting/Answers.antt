use Rattle.std.proofs.Common.{arith, refl, subst, sym}
use Rattle.std.proofs.lemmas.Int.{ints}
use Rattle.std.proofs.lemmas.Result.{on_ok_weaker}
use Rattle.label_search.specs.Plans.{IsShort}
use Rattle.label_search.specs.Labels.{IsReached}
use Rattle.label_search.proofs.Waiting.{ready_within, waited}
use Rattle.label_search.proofs.Advancing.{advanced_none, advanced_later, advanced_push}
use Rattle.label_search.proofs.Going.{none_waits, last_waits, far_waits, rest_waits}
use Rattle.label_search.proofs.Looking.{pieces_of_wait}
use Rattle.label_search.proofs.firsts.go_on_waiting.Goals as goal

pub returns-in_default-clause-advanced : goal.returns-in_default-clause-advanced
returns-in_default-clause-advanced c = advanced_none c.args.plan.now c.args.search.now c.args.queue.now

pub returns-in_default-clause-done : goal.returns-in_default-clause-done
returns-in_default-clause-done c =
    let dwell = (c.requires.plan.places c.args.part.now.place _ c.requires.part.place).dwell in
    let from = c.until_the_horizon-rest.ensures.from in
    none_waits c.args.plan.now c.args.book.now c.args.part.now c.place_at-place.result c.place_at-place.ensures c.waits.result.now c.waits.ensures c.until_the_horizon-rest.result c.requires.part.ticks.0 c.until_the_horizon-rest.ensures.from c.until_the_horizon-rest.ensures.to dwell.0 c.args.queue.now c.args.label c.args.search.now
    (λ tick held within. let low = held.0 in c.in_default.ensures.none refl tick (omega (arith, ints), within))

pub returns-then-free-part-clause-advanced : goal.returns-then-free-part-clause-advanced
returns-then-free-part-clause-advanced c = advanced_none c.args.plan.now c.args.search.now c.args.queue.now

pub returns-then-free-part-clause-done : goal.returns-then-free-part-clause-done
returns-then-free-part-clause-done c =
    let dwell = (c.requires.plan.places c.args.part.now.place _ c.requires.part.place).dwell in
    let from = c.until_the_horizon-rest.ensures.from in
    let late = c.if-free-part.true in
    none_waits c.args.plan.now c.args.book.now c.args.part.now c.place_at-place.result c.place_at-place.ensures c.waits.result.now c.waits.ensures c.until_the_horizon-rest.result c.requires.part.ticks.0 c.until_the_horizon-rest.ensures.from c.until_the_horizon-rest.ensures.to dwell.0 c.args.queue.now c.args.label c.args.search.now
    (λ tick held within. let low = held.0 in let high = held.1 in c.in-Some.ensures.found.before tick (omega (arith, ints)) (omega (arith, ints)))

pub ready_ticks-requires-clause-dwell : goal.ready_ticks-requires-clause-dwell
ready_ticks-requires-clause-dwell c =
    let dwell = (c.requires.plan.places c.args.part.now.place _ c.requires.part.place).dwell in
    subst (λ p. IsShort p.dwell) (sym c.place_at-place.ensures) dwell

pub wait-requires-clause-ticks : goal.wait-requires-clause-ticks
wait-requires-clause-ticks c =
    let dwell = (c.requires.plan.places c.args.part.now.place _ c.requires.part.place).dwell in
    let from = c.until_the_horizon-rest.ensures.from in
    ready_within c.args.plan.now c.args.book.now c.args.part.now c.place_at-place.result c.place_at-place.ensures c.waits.result.now c.waits.ensures c.until_the_horizon-rest.result c.requires.part.ticks.0 (omega (arith, ints)) c.until_the_horizon-rest.ensures.to dwell.0 c.in-Some.free c.in-Some.ensures.found c.ready_ticks.result c.ready_ticks.ensures.from c.ready_ticks.ensures.to

pub wait-requires-clause-waited : goal.wait-requires-clause-waited
wait-requires-clause-waited c =
    let dwell = (c.requires.plan.places c.args.part.now.place _ c.requires.part.place).dwell in
    let from = c.until_the_horizon-rest.ensures.from in
    let early = c.if-free-part.false in
    waited c.args.plan.now c.args.book.now c.args.part.now c.place_at-place.result c.place_at-place.ensures c.waits.result.now c.waits.ensures c.until_the_horizon-rest.result c.requires.part.ticks.0 (omega (arith, ints)) c.until_the_horizon-rest.ensures.to dwell.0 c.in-Some.free c.in-Some.ensures.found c.ready_ticks.result c.ready_ticks.ensures.from c.ready_ticks.ensures.to c.args.search.now.labels.labels c.requires.standing (omega (arith, ints))
    (λ tick held. subst (λ r. IsReached c.args.search.now.labels.labels c.args.part.now.place r tick) c.requires.arrived (c.requires.part.reached tick held))

pub returns-then-free-part-2-clause-advanced : goal.returns-then-free-part-2-clause-advanced
returns-then-free-part-2-clause-advanced c = advanced_later c.args.plan.now c.args.search.now c.wait.new.search c.args.queue.now c.leave_later.new.queue c.len-known.result c.wait.ensures.further c.len-known.ensures c.leave_later.ensures.kept c.in_ok-leave_later.ensures.left

pub returns-then-free-part-2-clause-done : goal.returns-then-free-part-2-clause-done
returns-then-free-part-2-clause-done c =
    let dwell = (c.requires.plan.places c.args.part.now.place _ c.requires.part.place).dwell in
    let ends = c.if-free-part-2.true in
    last_waits c.args.plan.now c.args.book.now c.args.part.now c.place_at-place.result c.place_at-place.ensures c.waits.result.now c.waits.ensures c.until_the_horizon-rest.result c.requires.part.ticks.0 c.until_the_horizon-rest.ensures.from c.until_the_horizon-rest.ensures.to dwell.0 c.leave_later.new.queue c.args.label c.in-Some.free c.in-Some.ensures.found c.ready_ticks.result c.ready_ticks.ensures.from c.ready_ticks.ensures.to c.args.search.now c.wait.new.search c.wait.ensures.further c.in_ok-wait.ensures.reached (omega (arith, ints))

pub returns-then-due-below-clause-advanced : goal.returns-then-due-below-clause-advanced
returns-then-due-below-clause-advanced c = advanced_later c.args.plan.now c.args.search.now c.wait.new.search c.args.queue.now c.leave_later.new.queue c.len-known.result c.wait.ensures.further c.len-known.ensures c.leave_later.ensures.kept c.in_ok-leave_later.ensures.left

pub returns-then-due-below-clause-done : goal.returns-then-due-below-clause-done
returns-then-due-below-clause-done c =
    let dwell = (c.requires.plan.places c.args.part.now.place _ c.requires.part.place).dwell in
    let far = c.if-due-below.true in
    let limit = c.below-below.ensures in
    let tick = c.waits_behind-due.ensures.tick in
    far_waits c.args.plan.now c.args.book.now c.args.part.now c.place_at-place.result c.place_at-place.ensures c.waits.result.now c.waits.ensures c.until_the_horizon-rest.result c.requires.part.ticks.0 c.until_the_horizon-rest.ensures.from c.until_the_horizon-rest.ensures.to dwell.0 c.leave_later.new.queue c.args.label c.in-Some.free c.in-Some.ensures.found c.ready_ticks.result c.ready_ticks.ensures.from c.ready_ticks.ensures.to c.args.search.now c.wait.new.search c.wait.ensures.further c.in_ok-wait.ensures.reached c.ahead_at-ahead.result c.ahead_at-ahead.ensures.value (omega (arith, ints))

pub returns-clause-advanced : goal.returns-clause-advanced
returns-clause-advanced c = on_ok_weaker c.push.result
    (λ added. advanced_push c.args.plan.now c.args.search.now c.wait.new.search c.args.queue.now c.leave_later.new.queue c.push.new.self
    (advanced_later c.args.plan.now c.args.search.now c.wait.new.search c.args.queue.now c.leave_later.new.queue c.len-known.result c.wait.ensures.further c.len-known.ensures c.leave_later.ensures.kept c.in_ok-leave_later.ensures.left) c.push.ensures.kept)
    c.push.ensures.added

pub returns-clause-done : goal.returns-clause-done
returns-clause-done c =
    let dwell = (c.requires.plan.places c.args.part.now.place _ c.requires.part.place).dwell in
    on_ok_weaker c.push.result
    (rest_waits c.args.plan.now c.args.book.now c.args.part.now c.place_at-place.result c.place_at-place.ensures c.waits.result.now c.waits.ensures c.until_the_horizon-rest.result c.requires.part.ticks.0 c.until_the_horizon-rest.ensures.from c.until_the_horizon-rest.ensures.to dwell.0 c.push.new.self c.args.label c.in-Some.free c.in-Some.ensures.found c.ready_ticks.result c.ready_ticks.ensures.from c.ready_ticks.ensures.to c.args.search.now c.wait.new.search c.wait.ensures.further c.in_ok-wait.ensures.reached c.waits_behind-due.result c.waits_behind-due.ensures.label c.waits_behind-due.ensures.work c.ahead_at-ahead.result c.ahead_at-ahead.ensures.value c.waits_behind-due.ensures.tick)
    c.push.ensures.added

pub next_start_near-requires-clause-pieces : goal.next_start_near-requires-clause-pieces
next_start_near-requires-clause-pieces c = pieces_of_wait c.args.plan.now c.args.book.now c.requires.plan c.args.part.now.place c.requires.part.place c.place_at-place.result c.place_at-place.ensures c.waits.result.now c.waits.ensures

pub next_start_near-requires-clause-within : goal.next_start_near-requires-clause-within
next_start_near-requires-clause-within c =
    let low = c.requires.part.ticks.0 in let horizon = c.requires.plan.horizon in
    let from = c.until_the_horizon-rest.ensures.from in let to = c.until_the_horizon-rest.ensures.to in
    (omega (arith, ints), omega (arith, ints))

pub ready_ticks-requires-clause-near : goal.ready_ticks-requires-clause-near
ready_ticks-requires-clause-near c =
    let low = c.requires.part.ticks.0 in let horizon = c.requires.plan.horizon in
    let from = c.until_the_horizon-rest.ensures.from in let to = c.until_the_horizon-rest.ensures.to in
    let next = c.in-Some.ensures.found in let first = next.from in let some = next.ticks in let last = next.to in
    ((omega (arith, ints), omega (arith, ints)), (omega (arith, ints), omega (arith, ints)))

pub waits_behind-due-requires-clause-near : goal.waits_behind-due-requires-clause-near
waits_behind-due-requires-clause-near c =
    let low = c.requires.part.ticks.0 in let horizon = c.requires.plan.horizon in
    let from = c.until_the_horizon-rest.ensures.from in let to = c.until_the_horizon-rest.ensures.to in
    let next = c.in-Some.ensures.found in let first = next.from in let some = next.ticks in let last = next.to in
    ((omega (arith, ints), omega (arith, ints)), (omega (arith, ints), omega (arith, ints)))

pub ahead_at-ahead-requires : goal.ahead_at-ahead-requires
ahead_at-ahead-requires c = c.wait.ensures.search.limits.ahead

pub waits_behind-due-requires-clause-ahead : goal.waits_behind-due-requires-clause-ahead
waits_behind-due-requires-clause-ahead c = c.ahead_at-ahead.ensures.ahead
