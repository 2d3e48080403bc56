use Rattle.std.proofs.Common.{◌≡◌, ◌≤◌, ℕ, length, take}
use Rattle.occupation_book.specs.Held.{held, zone_at}
use Rattle.grant_log.proofs.Gaining.{Left}
use Rattle.grant_log.proofs.copy_since.since.take_out_all.Given as goal

abbrev pub invariant-loop-one : goal.invariant-loop-one
invariant-loop-one l = record {
  left : Left (held l.fn.book) (held l.book) (take l.one-index l.freed);
  zones : length l.book ≡ length l.fn.book;
  room : (number : ℕ) → (zone_at l.fn.book number).spare ≤ (zone_at l.book number).spare;
}
