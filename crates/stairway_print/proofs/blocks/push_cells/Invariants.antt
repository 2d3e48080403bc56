use Rattle.std.proofs.Common.{◌≡◌, ◌++◌, drop, flat_map}
use Rattle.stairway_print.specs.Networks.{cell_text, cells_text}
use Rattle.stairway_print.proofs.blocks.push_cells.Given as goal

abbrev pub invariant-cells : goal.invariant-cells
invariant-cells l = l.to.items ++ flat_map cell_text (drop l.cell-index l.cells) ≡ l.fn.to.items ++ cells_text l.cells
