use Rattle.std.proofs.Common.{◌≡◌, take}
use Rattle.occupation_book.specs.Held.{claims_by_zone}
use Rattle.occupation_book.proofs.books.Occupations.copy.Given as goal

abbrev pub invariant-loop-zone : goal.invariant-loop-zone
invariant-loop-zone l = claims_by_zone l.all.items ≡ claims_by_zone (take l.zone-index l.zone-items)
