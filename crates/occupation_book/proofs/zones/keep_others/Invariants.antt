use Rattle.std.proofs.Common.{◌≡◌, ℕ, ◌≤◌, length, vec_capacity, vec_len}
use Rattle.occupation_book.proofs.Columns.{AreKept}
use Rattle.occupation_book.proofs.zones.keep_others.Given as goal

abbrev pub invariant-loop-at : goal.invariant-loop-at
invariant-loop-at l = record {
  rows : (number : ℕ) → AreKept l.owner number l.initial.ends.items l.initial.rest.items l.ends.items l.rest.items l.kept l.at;
  level : length l.ends.items ≡ length l.rest.items;
  long : vec_len l.rest ≡ vec_len l.initial.rest;
  behind : l.kept ≤ l.at;
  ends_room : vec_capacity l.ends ≡ vec_capacity l.initial.ends;
  rest_room : vec_capacity l.rest ≡ vec_capacity l.initial.rest;
}
