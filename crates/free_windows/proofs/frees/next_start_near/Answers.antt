use Rattle.std.proofs.Common.{◌≡◌, ◌<◌, length, arith, ap, refl, ◌∙◌, w64, FitsSigned}
use Rattle.std.specs.List.{HoldsAt}
use Rattle.std.proofs.lemmas.Int.{ints, to_z-of_z}
use Rattle.rail_types.specs.declared.paths.Window.{Window}
use Rattle.occupation_book.specs.Held.{IsFree, held}
use Rattle.free_windows.specs.Free.{moved}
use Rattle.free_windows.specs.Starts.{IsNextWindow}
use Rattle.free_windows.proofs.Rounds.{round_more, none_left, round_anew, round_is, less_count, less_rest}
use Rattle.free_windows.proofs.Nexts.{next_at, none_at}
use Rattle.free_windows.proofs.frees.next_start_near.Goals as goal
use Rattle.free_windows.proofs.frees.next_start_near.Goals.{After-next_place-at, then-next-rest, else-next-rest}

-- the first ticks at which the piece at the place is free of all that the book holds
at_place : (c : After-next_place-at) → IsNextWindow (λ tick. HoldsAt (λ piece. IsFree (held c.args.book.now) (moved tick piece)) c.args.pieces.now c.loop-known.at) c.loop-known.rest c.in_ok-next.next
at_place c =
    let inside : c.loop-known.at < length c.args.pieces.now = c.loop-known.invariant.place (omega (arith, c.loop-known-test.true)) in
    next_at (held c.args.book.now) _ c.args.pieces.now c.loop-known.at _ inside c.of_zone.ensures.free _ _ c.in_ok-next.ensures.found

-- their first tick is near
fits : (c : After-next_place-at) → FitsSigned w64 c.in_ok-next.next.from
fits c =
    let next = c.in_ok-next.ensures.found in
    let first = next.from in let some = next.ticks in let last = next.to in
    let low = c.loop-known.invariant.from in let whole = c.loop-known.invariant.to in
    let near_low = c.requires.within.0 in let near_high = c.requires.within.1 in
    omega (arith, ints)

pub returns-in_err-next-clause-none : goal.returns-in_err-next-clause-none
returns-in_err-next-clause-none c = λ none.
    let inside : c.loop-known.at < length c.args.pieces.now = c.loop-known.invariant.place (omega (arith, c.loop-known-test.true)) in
    none_left (λ tick piece. IsFree (held c.args.book.now) (moved tick piece)) c.args.pieces.now c.args.within.now _ _ _ _ c.loop-known-test.true c.loop-known.invariant
    (none_at (held c.args.book.now) _ c.args.pieces.now c.loop-known.at _ inside c.of_zone.ensures.free _ (c.in_err-next.ensures.none refl))

pub loop-known-smaller : goal.loop-known-smaller
loop-known-smaller c = elim c.if-next-rest.branch [
  | then-next-rest w ↦
      let from : c.if-next-rest.rest.from ≡ c.in_ok-next.next.from = ap (λ (w : Window). w.from) w.rest-is ∙ to_z-of_z w64 c.in_ok-next.next.from (fits c) in
      let next = c.in_ok-next.ensures.found in
      let some = next.ticks in let last = next.to in
      let whole = c.loop-known.invariant.to in
      less_rest _ c.loop-known.rest c.if-next-rest.rest (length c.args.pieces.now) c.loop-known.known c.if-next-rest.known (omega (arith, ints, w.if-next-rest.true)) (omega (arith, ints, w.if-next-rest.true))
  | else-next-rest w ↦ less_count _ c.loop-known.rest c.if-next-rest.rest (length c.args.pieces.now) c.loop-known.known c.if-next-rest.known w.rest-is w.known-is c.loop-known-test.true
]

pub loop-known-preserved : goal.loop-known-preserved
loop-known-preserved c = elim c.if-next-rest.branch [
  | then-next-rest w ↦
      round_is (λ tick piece. IsFree (held c.args.book.now) (moved tick piece)) c.args.pieces.now c.args.within.now _ _ _ _ _ _ _ w.rest-is w.ticks-is w.known-is
      (round_anew (λ tick piece. IsFree (held c.args.book.now) (moved tick piece)) c.args.pieces.now c.args.within.now _ _ _ _ _ _ _ c.loop-known-test.true c.loop-known.invariant
      (at_place c) (to_z-of_z w64 c.in_ok-next.next.from (fits c)) refl c.next_place-at.ensures.on c.next_place-at.ensures.round)
  | else-next-rest w ↦
      let first = c.in_ok-next.ensures.found.from in
      round_is (λ tick piece. IsFree (held c.args.book.now) (moved tick piece)) c.args.pieces.now c.args.within.now _ _ _ _ _ _ _ w.rest-is w.ticks-is w.known-is
      (round_more (λ tick piece. IsFree (held c.args.book.now) (moved tick piece)) c.args.pieces.now c.args.within.now _ _ _ _ _ _ _ c.loop-known-test.true c.loop-known.invariant
      (at_place c) (omega (arith, ints, w.if-next-rest.false)) w.until_either_ends-ticks.ensures.from w.until_either_ends-ticks.ensures.to c.next_place-at.ensures.on c.next_place-at.ensures.round)
]
