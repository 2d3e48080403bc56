use Rattle.std.proofs.Common.{◌≡◌, ◌++◌, map, take}
use Rattle.blocking_time.specs.Stairway.{claim_at}
use Rattle.blocking_time.specs.Indexed.{IsCursor}
use Rattle.blocking_time.proofs.stairways.push_claims.Given as goal

abbrev pub invariant-loop-cell : goal.invariant-loop-cell
invariant-loop-cell l = record {
  claims : l.claims.items ≡ l.fn.claims.items ++ map (claim_at l.net l.settings l.path l.index) (take l.cell-index l.cell-items);
  cursor : IsCursor l.net l.settings l.path l.index l.cursor;
}
