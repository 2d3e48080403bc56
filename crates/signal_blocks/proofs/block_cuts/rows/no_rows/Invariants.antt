use Rattle.std.proofs.Common.{◌≡◌, [], length}
use Rattle.signal_blocks.specs.Rows.{AreRows}
use Rattle.signal_blocks.proofs.block_cuts.rows.no_rows.Given as goal

abbrev pub invariant-rows : goal.invariant-rows
invariant-rows g l = record {
  long : length l.rows.items ≡ l.counter;
  none : AreRows g.T.InRow.row_number [] l.rows.items;
}
