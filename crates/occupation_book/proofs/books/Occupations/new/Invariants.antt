use Rattle.std.proofs.Common.{◌≡◌, [], length, All}
use Rattle.occupation_book.proofs.books.Occupations.new.Given as goal

abbrev pub invariant-loop : goal.invariant-loop
invariant-loop l = record {
  counted : length l.all.items ≡ l.counter;
  empty : All (λ zone. zone.claims ≡ []) l.all.items;
}
