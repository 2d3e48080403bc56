use Rattle.std.proofs.Common.{◌≡◌, take}
use Rattle.occupation_book.specs.Held.{held}
use Rattle.occupation_book.proofs.books.Occupations.claims.Given as goal

abbrev pub invariant-loop-zone : goal.invariant-loop-zone
invariant-loop-zone l = l.all.items ≡ held (take l.zone-index l.zone-items)
