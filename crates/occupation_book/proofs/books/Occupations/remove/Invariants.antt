use Rattle.occupation_book.proofs.Removals.{IsRemovedBelow}
use Rattle.occupation_book.proofs.books.Occupations.remove.Given as goal

abbrev pub invariant-loop-number : goal.invariant-loop-number
invariant-loop-number l = IsRemovedBelow l.owner l.initial.self-inside.zones.items l.self-inside.zones.items l.number l.count
