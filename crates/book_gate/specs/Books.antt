-- The book that is out, lent to be changed.
use Rattle.std.specs.Borrow.{Lends, MutBor, Fml}
use denote.RattleType.{RattleType}
use Rattle.book_gate.specs.contracts.held.Held.{the_row}

-- what is held is the last book that was written through the result
abbrev pub LendsBook : (S : RattleType) → MutBor S.Denot → MutBor S.Denot → Fml
LendsBook S held book = Lends (the_row S) S held book (λ w. w)
