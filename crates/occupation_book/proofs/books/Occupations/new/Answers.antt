use Rattle.std.proofs.Common.{arith}
use Rattle.occupation_book.proofs.AllZones.{book_of_none, held_by_none}
use Rattle.occupation_book.proofs.books.Occupations.new.Goals as goal

pub invariant_of-result : goal.invariant_of-result
invariant_of-result c = book_of_none _ c.loop.invariant.empty (omega (arith, c.ranges.zones.fits))

pub returns-clause-empty : goal.returns-clause-empty
returns-clause-empty c = held_by_none _ c.loop.invariant.empty
