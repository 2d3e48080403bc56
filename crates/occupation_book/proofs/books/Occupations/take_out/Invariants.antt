use Rattle.occupation_book.proofs.TakenOut.{IsTakenOut, AreCounted}
use Rattle.occupation_book.proofs.books.Occupations.take_out.Given as goal

abbrev pub invariant-loop-at : goal.invariant-loop-at
invariant-loop-at l = record {
  taken : IsTakenOut l.owner l.claims l.initial.self-inside.zones.items l.self-inside.zones.items l.at;
  counted : AreCounted l.owner l.initial.self-inside.zones.items l.self-inside.zones.items l.count;
}
