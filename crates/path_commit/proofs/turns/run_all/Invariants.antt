use Rattle.std.proofs.Common.{◌≡◌, ◌≤◌, length, take, vec_capacity, vec_len}
use Rattle.path_commit.specs.Runs.{AreAnswered, AreTurns, Grows}
use Rattle.path_commit.proofs.turns.run_all.Given as goal

abbrev pub invariant-loop-one : goal.invariant-loop-one
invariant-loop-one g l = record {
  grows : Grows l.fn.book l.book;
  turns : AreTurns g.D.Disk l.fn.book (take l.one-index l.sent) l.answers.items l.book;
  later : g.D.Disk.faults l.fn.book.disk ≤ g.D.Disk.faults l.book.disk;
  count : length l.answers.items ≡ l.one-index;
  len : vec_len l.answers ≡ l.one-index;
  room : length l.sent ≤ vec_capacity l.answers;
  answered : AreAnswered l.book l.sent l.answers.items;
}
