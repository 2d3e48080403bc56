use Rattle.std.proofs.Common.{arith, sym, refl}
use Rattle.std.proofs.lemmas.Int.{ints}
use Rattle.label_search.proofs.Zones.{free_to_the_end, free_to_the_next, blocked_to_its_end}
use Rattle.label_search.proofs.stretches.stretch_of.Goals as goal

pub returns-then-next-start : goal.returns-then-next-start
returns-then-next-start c =
    let next = c.in-Some.ensures.lookup in
    blocked_to_its_end c.args.kept.now c.args.piece.now c.args.within.now _ c.requires.zone c.requires.some c.requires.ticks _ c.at_start-start.ensures.from c.first_ending_after-at.ensures.before c.first_ending_after-at.ensures.after _ c.until_it_ends.ensures.from _ next.3.0 (λ other. sym (next.3.1 other)) c.until_it_ends.ensures.to (omega (arith, ints))

pub returns-else-next-start : goal.returns-else-next-start
returns-else-next-start c =
    let next = c.in-Some.ensures.lookup in
    free_to_the_next c.args.kept.now c.args.piece.now c.args.within.now _ c.requires.zone c.requires.some c.requires.ticks _ c.at_start-start.ensures.from c.first_ending_after-at.ensures.before c.first_ending_after-at.ensures.after _ c.until_it_begins.ensures.from _ next.3.0 (λ other. sym (next.3.1 other)) c.until_it_begins.ensures.to (omega (arith, ints))

pub returns-in_default : goal.returns-in_default
returns-in_default c = free_to_the_end c.args.kept.now c.args.piece.now c.args.within.now _ c.requires.zone c.requires.some c.requires.ticks _ c.at_start-start.ensures.from c.first_ending_after-at.ensures.before c.first_ending_after-at.ensures.after c.args.within.now refl (omega (arith, c.in_default.ensures.lookup))
