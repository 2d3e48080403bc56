use Rattle.std.proofs.Common.{◌≡◌, ◌+◌, ◌*◌, ◌≤◌, ◌^◌, drop}
use Rattle.signal_blocks.specs.Faults.{count_cells}
use Rattle.signal_blocks.proofs.block_cuts.faults.count_cells.Given as goal

abbrev pub invariant-walks : goal.invariant-walks
invariant-walks l = record {
  few : l.count ≤ l.walk-index * 2 ^ 64;
  rest : l.count + count_cells (drop l.walk-index l.walks) ≡ count_cells l.walks;
}
