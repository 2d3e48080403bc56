use Rattle.std.proofs.Common.{◌<◌, arith, refl, subst, sym}
use Rattle.std.specs.Prelude.{pos, ◌+ℤ◌}
use Rattle.std.specs.Int.{int_gap}
use Rattle.label_search.proofs.Gaps.{gap_smaller}
use Rattle.std.proofs.lemmas.Int.{ints, clamps, by_lt_z}
use Rattle.label_search.specs.Limits.{IsBelow}
use Rattle.label_search.specs.Paths.{move_at, leave_of}
use Rattle.label_search.specs.Search.{step_at}
use Rattle.label_search.proofs.Growth.{further_none, further_more}
use Rattle.label_search.proofs.Reaching.{free_moves, free_below, none_left, admitted_more}
use Rattle.label_search.proofs.Looking.{pieces_of_move, run_of_move}
use Rattle.label_search.proofs.searches.explore_move.Goals as goal

pub loop-free-init : goal.loop-free-init
loop-free-init c = record {
  search = c.requires.search;
  further = further_none _;
  from = omega (arith, ints);
  to = c.enters-rest.ensures.to;
  explored = λ enter held early free below. let low = held.0 in absurd (omega (arith, ints));
}

pub reach-requires-clause-free : goal.reach-requires-clause-free
reach-requires-clause-free c =
    free_moves c.args.plan.now c.args.book.now c.args.front.now c.args.number _ c.requires.step _ c.pieces.ensures c.loop-free.rest c.requires.front.ticks.0 c.loop-free.invariant.from c.args.search.now.limits c.loop-free.invariant.to c.requires.number _ c.in-Some.ensures.found

pub returns-in_err-reach-clause-further : goal.returns-in_err-reach-clause-further
returns-in_err-reach-clause-further c = further_more _ _ _ c.loop-free.invariant.further c.in_err-reach.ensures.further

pub behind-rest-requires : goal.behind-rest-requires
behind-rest-requires c =
    let last = c.in-Some.ensures.found.to in let to = c.loop-free.invariant.to in
    let ends = c.requires.front.ticks.1 in
    let horizon = c.requires.plan.horizon in
    record { near = omega (arith, ints, clamps) }

pub loop-free-preserved : goal.loop-free-preserved
loop-free-preserved c =
    let old = c.loop-free.invariant in
    let next = c.in-Some.ensures.found in
    let first = next.from in let some = next.ticks in
    record {
      search = c.reach.ensures.search;
      further = further_more _ _ _ old.further c.reach.ensures.further;
      from = omega (arith, ints);
      to = omega (arith, ints);
      explored = λ enter held early.
          admitted_more c.args.plan.now c.args.book.now c.args.front.now c.args.number _ c.requires.step _ c.pieces.ensures c.loop-free.rest c.requires.front.ticks.0 old.from c.args.search.now.limits old.to c.args.trip.now _ _ c.reach.ensures.further _ next old.explored c.in_ok-reach.ensures.admitted enter held (omega (arith, ints));
    }

pub returns-clause-explored : goal.returns-clause-explored
returns-clause-explored c enter held free below =
    let old = c.loop-free.invariant in
    by_lt_z enter c.loop-free.rest.from
    (λ ahead. old.explored enter held ahead free below)
    (λ behind. absurd (none_left c.args.plan.now c.args.book.now c.args.front.now c.args.number _ c.requires.step _ c.pieces.ensures c.loop-free.rest c.requires.front.ticks.0 old.from c.args.search.now.limits old.to (c.in_default.ensures.none refl) enter held behind free (subst (λ limits. IsBelow limits (move_at c.args.plan.now c.args.front.now.place c.args.number).target (leave_of c.args.plan.now c.args.front.now.place (step_at c.args.number enter))) c.loop-free.invariant.further.limits below)))

pub reach-requires-clause-held : goal.reach-requires-clause-held
reach-requires-clause-held c enter held =
    let next = c.in-Some.ensures.found in let first = next.from in let last = next.to in
    let old = c.loop-free.invariant in let from = old.from in let to = old.to in
    let low = held.0 in let high = held.1 in
    (omega (arith, ints), omega (arith, ints, clamps))

pub next_start_near-requires-clause-within : goal.next_start_near-requires-clause-within
next_start_near-requires-clause-within c =
    let low = c.requires.front.ticks.0 in let high = c.requires.front.ticks.1 in
    let horizon = c.requires.plan.horizon in
    let from = c.loop-free.invariant.from in let to = c.loop-free.invariant.to in
    (omega (arith, ints), omega (arith, ints, clamps))

pub loop-free-smaller : goal.loop-free-smaller
loop-free-smaller c =
    let next = c.in-Some.ensures.found in let first = next.from in let some = next.ticks in let last = next.to in
    let after = c.behind-rest.ensures.from in
    let same = c.behind-rest.ensures.to in
    subst (λ to. int_gap c.behind-rest.result.from (to +ℤ pos 1) < int_gap c.loop-free.rest.from (c.loop-free.rest.to +ℤ pos 1)) (sym same) (gap_smaller c.loop-free.rest.from c.behind-rest.result.from _ (omega (arith, ints)) (omega (arith, ints)))

pub reach-requires-clause-below : goal.reach-requires-clause-below
reach-requires-clause-below c =
    free_below c.args.plan.now c.args.book.now c.args.front.now c.args.number _ c.requires.step _ c.pieces.ensures c.loop-free.rest c.requires.front.ticks.0 c.loop-free.invariant.from c.args.search.now.limits c.loop-free.invariant.to _ c.in-Some.ensures.found _ (sym c.loop-free.invariant.further.limits)

pub enters-rest-requires-clause-run : goal.enters-rest-requires-clause-run
enters-rest-requires-clause-run c = run_of_move c.args.plan.now c.args.book.now c.requires.plan c.args.front.now.place c.requires.front.place c.args.number c.requires.number c.args.step.now c.requires.step

pub next_start_near-requires-clause-pieces : goal.next_start_near-requires-clause-pieces
next_start_near-requires-clause-pieces c = pieces_of_move c.args.plan.now c.args.book.now c.requires.plan c.args.front.now.place c.requires.front.place c.args.number c.requires.number c.args.step.now c.requires.step c.pieces.result.now c.pieces.ensures
