use Rattle.std.proofs.Common.{◌≡◌, length, take, drop}
use Rattle.occupation_book.specs.Held.{held}
use Rattle.grant_log.specs.Following.{Gains}
use Rattle.grant_log.specs.Rooms.{HasRoomFor}
use Rattle.grant_log.proofs.copy_since.holding.hold_all.Given as goal

abbrev pub invariant-loop-one : goal.invariant-loop-one
invariant-loop-one l = record {
  gained : Gains (held l.fn.book) (take l.one-index l.claims) (held l.book);
  zones : length l.book ≡ length l.fn.book;
  room : HasRoomFor l.book (drop l.one-index l.claims);
}
