use Rattle.std.proofs.Common.{◌≡◌, length, take}
use Rattle.path_recover.specs.claims.Held.{held}
use Rattle.path_recover.specs.history.Following.{Gains}
use Rattle.path_recover.specs.history.Live.{owned_by}
use Rattle.carry_command.proofs.carried_history.holding.hold_each.Given as goal

abbrev pub invariant-loop-claim : goal.invariant-loop-claim
invariant-loop-claim l = record {
  gained : Gains (held l.fn.book) (take l.claim-index (owned_by l.at l.claims)) (held l.book);
  zones : length l.book ≡ length l.fn.book;
}
