use Rattle.std.proofs.Common.{◌≡◌, length}
use Rattle.path_recover.specs.claims.Held.{held}
use Rattle.carry_command.proofs.carried_history.holding.reserve_each.Given as goal

abbrev pub invariant-loop-zone : goal.invariant-loop-zone
invariant-loop-zone l = record {
  held : held l.book ≡ held l.fn.book;
  zones : length l.book ≡ length l.fn.book;
}
