use Rattle.std.proofs.Common.{ℕ, arith, refl, subst, sym}
use Rattle.std.proofs.lemmas.Int.{ints, clamps}
use Rattle.std.proofs.lemmas.Result.{on_ok_weaker}
use Rattle.label_search.specs.Plans.{IsShort, IsTarget}
use Rattle.label_search.proofs.Reaching.{free_moves, free_below}
use Rattle.label_search.proofs.Advancing.{advanced_none, advanced_later, advanced_push}
use Rattle.label_search.proofs.Going.{known_in_hand, none_in_hand, last_in_hand, rest_in_hand}
use Rattle.label_search.proofs.Looking.{pieces_of_move, run_of_move, target_of_move}
use Rattle.label_search.proofs.Outlooks.{ahead_further, outlook_further}
use Rattle.label_search.proofs.firsts.go_on.Goals as goal

pub next_start_near-requires-clause-within : goal.next_start_near-requires-clause-within
next_start_near-requires-clause-within c =
    let low = c.requires.part.ticks.0 in let high = c.requires.part.ticks.1 in
    let horizon = c.requires.plan.horizon in
    let from = c.enters_by-rest.ensures.from in let to = c.enters_by-rest.ensures.to in
    (omega (arith, ints), omega (arith, ints, clamps))

pub is_known-requires-clause-target : goal.is_known-requires-clause-target
is_known-requires-clause-target c =
    subst (λ (places : ℕ). IsTarget places c.args.next.now.step.target) (sym c.requires.search.places)
    (target_of_move c.args.plan.now c.args.book.now c.requires.plan c.args.part.now.place c.requires.part.place c.args.next.now.onward.number c.requires.number c.args.next.now.step c.requires.step)

pub is_known-requires-clause-run : goal.is_known-requires-clause-run
is_known-requires-clause-run c = run_of_move c.args.plan.now c.args.book.now c.requires.plan c.args.part.now.place c.requires.part.place c.args.next.now.onward.number c.requires.number c.args.next.now.step c.requires.step

pub is_known-requires-clause-low : goal.is_known-requires-clause-low
is_known-requires-clause-low c = let low = c.requires.part.ticks.0 in let from = c.enters_by-rest.ensures.from in omega (arith, ints)

pub is_known-requires-clause-high : goal.is_known-requires-clause-high
is_known-requires-clause-high c = let horizon = c.requires.plan.horizon in let to = c.enters_by-rest.ensures.to in omega (arith, ints, clamps)

pub returns-then-is_known-clause-advanced : goal.returns-then-is_known-clause-advanced
returns-then-is_known-clause-advanced c = advanced_none c.args.plan.now c.args.search.now c.args.queue.now

pub returns-then-is_known-clause-done : goal.returns-then-is_known-clause-done
returns-then-is_known-clause-done c =
    known_in_hand c.args.plan.now c.args.book.now c.args.part.now c.args.next.now.onward.number c.args.next.now.step c.requires.step c.args.next.now.step.pieces refl c.enters_by-rest.result c.requires.part.ticks.0 c.enters_by-rest.ensures.from c.args.search.now.limits c.enters_by-rest.ensures.to c.args.trip.now c.args.search.now refl c.args.queue.now c.args.next.now.onward.label (c.is_known.ensures c.if-is_known.true c.args.trip.now)

pub returns-in_default-clause-advanced : goal.returns-in_default-clause-advanced
returns-in_default-clause-advanced c = advanced_none c.args.plan.now c.args.search.now c.args.queue.now

pub returns-in_default-clause-done : goal.returns-in_default-clause-done
returns-in_default-clause-done c =
    none_in_hand c.args.plan.now c.args.book.now c.args.part.now c.args.next.now.onward.number c.args.next.now.step c.requires.step c.pieces.result.now c.pieces.ensures c.enters_by-rest.result c.requires.part.ticks.0 c.enters_by-rest.ensures.from c.args.search.now.limits c.enters_by-rest.ensures.to c.args.trip.now c.args.search.now refl c.args.queue.now c.args.next.now.onward.label (c.in_default.ensures.none refl)

pub reach-requires-clause-held : goal.reach-requires-clause-held
reach-requires-clause-held c enter held =
    let next = c.in-Some.ensures.found in let first = next.from in let last = next.to in
    let from = c.enters_by-rest.ensures.from in let to = c.enters_by-rest.ensures.to in
    let low = held.0 in let high = held.1 in
    (omega (arith, ints), omega (arith, ints, clamps))

pub reach-requires-clause-free : goal.reach-requires-clause-free
reach-requires-clause-free c =
    let from = c.enters_by-rest.ensures.from in
    free_moves c.args.plan.now c.args.book.now c.args.part.now c.args.next.now.onward.number c.args.next.now.step c.requires.step c.pieces.result.now c.pieces.ensures c.enters_by-rest.result c.requires.part.ticks.0 (omega (arith, ints)) c.args.search.now.limits c.enters_by-rest.ensures.to c.requires.number c.in-Some.free c.in-Some.ensures.found

pub reach-requires-clause-below : goal.reach-requires-clause-below
reach-requires-clause-below c =
    let from = c.enters_by-rest.ensures.from in
    free_below c.args.plan.now c.args.book.now c.args.part.now c.args.next.now.onward.number c.args.next.now.step c.requires.step c.pieces.result.now c.pieces.ensures c.enters_by-rest.result c.requires.part.ticks.0 (omega (arith, ints)) c.args.search.now.limits c.enters_by-rest.ensures.to c.in-Some.free c.in-Some.ensures.found c.args.search.now.limits refl

pub returns-then-free-rest-clause-advanced : goal.returns-then-free-rest-clause-advanced
returns-then-free-rest-clause-advanced c =
    advanced_later c.args.plan.now c.args.search.now c.reach.new.search c.args.queue.now c.leave_later.new.queue c.len-known.result c.reach.ensures.further c.len-known.ensures c.leave_later.ensures.kept c.in_ok-leave_later.ensures.left

pub returns-then-free-rest-clause-done : goal.returns-then-free-rest-clause-done
returns-then-free-rest-clause-done c =
    let late = c.if-free-rest.true in
    last_in_hand c.args.plan.now c.args.book.now c.args.part.now c.args.next.now.onward.number c.args.next.now.step c.requires.step c.pieces.result.now c.pieces.ensures c.enters_by-rest.result c.requires.part.ticks.0 c.enters_by-rest.ensures.from c.args.search.now.limits c.enters_by-rest.ensures.to c.args.trip.now c.args.search.now c.reach.new.search refl c.reach.ensures.further c.in-Some.free c.in-Some.ensures.found c.in_ok-reach.ensures.admitted c.leave_later.new.queue c.args.next.now.onward.label (omega (arith, ints))

pub move_behind-requires-clause-near : goal.move_behind-requires-clause-near
move_behind-requires-clause-near c =
    let low = c.requires.part.ticks.0 in let high = c.requires.part.ticks.1 in
    let horizon = c.requires.plan.horizon in
    let from = c.enters_by-rest.ensures.from in let to = c.enters_by-rest.ensures.to in
    let next = c.in-Some.ensures.found in let first = next.from in let some = next.ticks in let last = next.to in
    ((omega (arith, ints), omega (arith, ints, clamps)), (omega (arith, ints), omega (arith, ints, clamps)))

pub move_behind-requires-clause-run : goal.move_behind-requires-clause-run
move_behind-requires-clause-run c =
    subst (λ m. IsShort m.run) (sym c.requires.step) ((c.requires.plan.places c.args.part.now.place _ c.requires.part.place).moves c.args.next.now.onward.number _ c.requires.number).run.0

pub returns-clause-advanced : goal.returns-clause-advanced
returns-clause-advanced c = on_ok_weaker c.push.result
    (λ added. advanced_push c.args.plan.now c.args.search.now c.reach.new.search c.args.queue.now c.leave_later.new.queue c.push.new.self
    (advanced_later c.args.plan.now c.args.search.now c.reach.new.search c.args.queue.now c.leave_later.new.queue c.len-known.result c.reach.ensures.further c.len-known.ensures c.leave_later.ensures.kept c.in_ok-leave_later.ensures.left) c.push.ensures.kept)
    c.push.ensures.added

pub returns-clause-done : goal.returns-clause-done
returns-clause-done c = on_ok_weaker c.push.result
    (rest_in_hand c.args.plan.now c.args.book.now c.args.part.now c.args.next.now.onward.number c.args.next.now.step c.requires.step c.pieces.result.now c.pieces.ensures c.enters_by-rest.result c.requires.part.ticks.0 c.enters_by-rest.ensures.from c.args.search.now.limits c.enters_by-rest.ensures.to c.args.trip.now c.args.search.now c.reach.new.search refl c.reach.ensures.further c.in-Some.free c.in-Some.ensures.found c.in_ok-reach.ensures.admitted c.push.new.self c.args.next.now.onward.label c.move_behind.result c.move_behind.ensures.label c.move_behind.ensures.work c.ahead_to-ahead.result (ahead_further c.args.search.now c.reach.new.search c.reach.ensures.further c.args.next.now.step.target c.ahead_to-ahead.result c.ahead_to-ahead.ensures.value) c.move_behind.ensures.tick)
    c.push.ensures.added

pub enters_by-rest-requires-clause-run : goal.enters_by-rest-requires-clause-run
enters_by-rest-requires-clause-run c = run_of_move c.args.plan.now c.args.book.now c.requires.plan c.args.part.now.place c.requires.part.place c.args.next.now.onward.number c.requires.number c.args.next.now.step c.requires.step

pub enters_by-rest-requires-clause-below : goal.enters_by-rest-requires-clause-below
enters_by-rest-requires-clause-below c = c.requires.search.limits.below

pub leave_later-requires-clause-outlook : goal.leave_later-requires-clause-outlook
leave_later-requires-clause-outlook c = outlook_further c.args.search.now c.reach.new.search c.reach.ensures.further c.args.next.now.step.target _ c.target.ensures c.ahead_to-ahead.ensures.value c.ahead_to-ahead.ensures.ahead

pub next_start_near-requires-clause-pieces : goal.next_start_near-requires-clause-pieces
next_start_near-requires-clause-pieces c = pieces_of_move c.args.plan.now c.args.book.now c.requires.plan c.args.part.now.place c.requires.part.place c.args.next.now.onward.number c.requires.number c.args.next.now.step c.requires.step c.pieces.result.now c.pieces.ensures

pub reach-requires-clause-some : goal.reach-requires-clause-some
reach-requires-clause-some c = c.in-Some.ensures.found.ticks

pub ahead_to-ahead-requires : goal.ahead_to-ahead-requires
ahead_to-ahead-requires c = c.requires.search.limits.ahead

pub move_behind-requires-clause-ahead : goal.move_behind-requires-clause-ahead
move_behind-requires-clause-ahead c = c.ahead_to-ahead.ensures.ahead
