use Rattle.std.proofs.Common.{◌≡◌, ◌+◌, ◌*◌, ◌≤◌, ◌^◌, drop}
use Rattle.signal_blocks.specs.Faults.{count_blocks}
use Rattle.signal_blocks.proofs.block_cuts.faults.count_blocks.Given as goal

abbrev pub invariant-walks : goal.invariant-walks
invariant-walks l = record {
  few : l.count ≤ l.walk-index * 2 ^ 64;
  rest : l.count + count_blocks l.sights (drop l.walk-index l.walks) ≡ count_blocks l.sights l.walks;
}
