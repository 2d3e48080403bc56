use Rattle.std.proofs.Common.{◌≡◌, ◌≤◌, drop, length}
use Rattle.stair_pieces.specs.Places.{metres_of, uncleared}
use Rattle.stair_pieces.proofs.claims.uncleared.Given as goal

-- the passages of the blocks from here on, and their length
abbrev pub invariant-loop-at : goal.invariant-loop-at
invariant-loop-at l = record {
  within : l.at ≤ length l.tail;
  gone : l.gone ≡ metres_of l.net (drop l.at l.tail);
  passages : l.passages.items ≡ uncleared l.net l.train (drop l.at l.tail);
}

abbrev pub decreases-loop-at : goal.decreases-loop-at
decreases-loop-at l = l.at
