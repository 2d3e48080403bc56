use Rattle.std.proofs.Common.{◌≡◌, ℕ, ◌<◌, ◌≤◌, ◌-◌, length, take, get_or}
use Rattle.occupation_book.specs.Held.{claims_by_zone, held, zone_at}
use Rattle.grant_log.specs.Rooms.{count_of}
use Rattle.grant_log.proofs.copy_since.rooms.reserve_each.Given as goal

abbrev pub invariant-loop-at : goal.invariant-loop-at
invariant-loop-at l = record {
  claims : claims_by_zone l.book ≡ claims_by_zone l.fn.book;
  held : held l.book ≡ held l.fn.book;
  zones : length l.book ≡ length l.fn.book;
  room : (number : ℕ) → count_of number (take l.at l.zones) ≤ (zone_at l.book number).spare;
  same : (d : ℕ) → 0 < l.at → l.same ≡ count_of (get_or l.zones (l.at - 1) d) (take l.at l.zones);
  kept : (number : ℕ) → (zone_at l.fn.book number).spare ≤ (zone_at l.book number).spare;
}
