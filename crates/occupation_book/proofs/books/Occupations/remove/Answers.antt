use Rattle.std.proofs.Common.{◌<◌, length, arith}
use Rattle.occupation_book.proofs.Removals.{removed_more, out_by_zone, out_of_held, book_without}
use Rattle.occupation_book.proofs.books.Occupations.remove.Goals as goal

pub loop-number-preserved : goal.loop-number-preserved
loop-number-preserved c = removed_more _ _ _ _ _ _ _ _ _ c.loop-number.invariant (omega (arith, c.loop-number.invariant.long)) c.index_mut-zone.ensures.value c.remove.ensures.without c.remove.ensures.count c.saturating_add-count.ensures

pub invariant_of-self : goal.invariant_of-self
invariant_of-self c = book_without _ _ _ c.loop-number.invariant.long (λ k within. c.loop-number.invariant.done k (omega arith)) c.self.invariant

pub returns-clause-claims : goal.returns-clause-claims
returns-clause-claims c = rw (← c.self.view_is) (out_by_zone _ _ _ c.loop-number.invariant.long (λ k within. c.loop-number.invariant.done k (omega arith)))

pub returns-clause-held : goal.returns-clause-held
returns-clause-held c = rw (← c.self.view_is) (out_of_held _ _ _ c.loop-number.invariant.long (λ k within. c.loop-number.invariant.done k (omega arith)))

pub returns-clause-each : goal.returns-clause-each
returns-clause-each c number within =
    let within_old : number < length c.self.inside.zones.items = rw c.self.view_is within in
    rw (← c.self.view_is) (c.loop-number.invariant.done number (omega arith))
