use Rattle.std.proofs.Common.{◌≡◌, ◌++◌, take}
use Rattle.occupation_book.proofs.zones.ZoneClaims.append_to.Given as goal

abbrev pub invariant-loop-at : goal.invariant-loop-at
invariant-loop-at l = l.all.items ≡ l.initial.all.items ++ take l.at l.self.claims
