use Rattle.std.proofs.Common.{◌≡◌, ◌-◌}
use Rattle.std.specs.List.{filter_map, range_with_len}
use Rattle.signal_blocks.specs.Cells.{cell_at}
use Rattle.signal_blocks.proofs.block_cuts.cells.cells_between.Given as goal

abbrev pub invariant-places : goal.invariant-places
invariant-places l = l.cells ≡ filter_map (cell_at l.walk l.from l.to) (range_with_len l.from (l.place - l.from))
