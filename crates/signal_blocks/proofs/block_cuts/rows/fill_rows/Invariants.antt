use Rattle.std.proofs.Common.{take}
use Rattle.signal_blocks.specs.Rows.{AreRows}
use Rattle.signal_blocks.proofs.block_cuts.rows.fill_rows.Given as goal

abbrev pub invariant-fills : goal.invariant-fills
invariant-fills g l = AreRows g.T.InRow.row_number (take l.item-index l.all) l.rows
