use Rattle.std.proofs.Common.{◌<◌, ◌<ℤ◌, ◌≤ℤ◌, length, arith, subst, sym}
use Rattle.std.specs.Prelude.{◌+ℤ◌}
use Rattle.std.proofs.lemmas.Int.{ints}
use Rattle.rail_types.specs.Limits.{IsNear}
use Rattle.rail_types.specs.declared.paths.Span.{Span}
use Rattle.free_windows.proofs.Zones.{a_claim, free_to_the_next, none_behind, rest_behind}
use Rattle.free_windows.proofs.frees.next_of.Goals as goal

pub until_it_begins-requires : goal.until_it_begins-requires
until_it_begins-requires c =
    let within : c.loop-number.number < length c.args.kept.now.claims = omega (arith, c.len-number-end.ensures, c.loop-number-test.true) in
    let one = a_claim c.args.piece.now in
    record { near = (c.requires.near.1, subst (λ (span : Span). IsNear span.from) (sym (c.span_at-next.ensures one)) (c.requires.zone.near c.loop-number.number one within).0) }

pub returns-then-at_start-next-clause-found : goal.returns-then-at_start-next-clause-found
returns-then-at_start-next-clause-found c =
    let within : c.loop-number.number < length c.args.kept.now.claims = omega (arith, c.len-number-end.ensures, c.loop-number-test.true) in
    let until = c.until_it_begins.ensures in
    let late : (c.loop-number.rest.from +ℤ c.args.piece.now.span.to) ≤ℤ c.span_at-next.result.from = let start = c.at_start.ensures.to in omega (arith, ints) in
    free_to_the_next c.args.kept.now.claims c.args.piece.now c.args.within.now c.loop-number.rest c.loop-number.number c.requires.zone c.requires.ticks c.loop-number.invariant c.span_at-next.result within c.span_at-next.ensures c.until_it_begins.result until.from until.to late

pub once_it_ends-rest-requires : goal.once_it_ends-rest-requires
once_it_ends-rest-requires c =
    let within : c.loop-number.number < length c.args.kept.now.claims = omega (arith, c.len-number-end.ensures, c.loop-number-test.true) in
    let one = a_claim c.args.piece.now in
    record { near = (c.requires.near.0, subst (λ (span : Span). IsNear span.to) (sym (c.span_at-next.ensures one)) (c.requires.zone.near c.loop-number.number one within).1) }

pub returns-then-rest-clause-none : goal.returns-then-rest-clause-none
returns-then-rest-clause-none c = λ none.
    let within : c.loop-number.number < length c.args.kept.now.claims = omega (arith, c.len-number-end.ensures, c.loop-number-test.true) in
    let left = c.once_it_ends-rest.ensures in
    let begun : c.span_at-next.result.from <ℤ (c.loop-number.rest.from +ℤ c.args.piece.now.span.to) = let start = c.at_start.ensures.to in omega (arith, ints) in
    none_behind c.args.kept.now.claims c.args.piece.now c.args.within.now c.loop-number.rest c.loop-number.number c.requires.zone c.requires.ticks c.loop-number.invariant c.span_at-next.result within c.span_at-next.ensures begun c.once_it_ends-rest.result left.from left.to (omega (arith, ints))

pub loop-number-preserved : goal.loop-number-preserved
loop-number-preserved c =
    let within : c.loop-number.number < length c.args.kept.now.claims = omega (arith, c.len-number-end.ensures, c.loop-number-test.true) in
    let left = c.once_it_ends-rest.ensures in
    let begun : c.span_at-next.result.from <ℤ (c.loop-number.rest.from +ℤ c.args.piece.now.span.to) = let start = c.at_start.ensures.to in omega (arith, ints) in
    rest_behind c.args.kept.now.claims c.args.piece.now c.args.within.now c.loop-number.rest c.loop-number.number c.requires.zone c.requires.ticks c.loop-number.invariant c.span_at-next.result within c.span_at-next.ensures begun c.once_it_ends-rest.result left.from left.to (omega (arith, ints))
