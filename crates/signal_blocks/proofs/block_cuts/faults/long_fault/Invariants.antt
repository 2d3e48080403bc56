use Rattle.std.proofs.Common.{◌≡◌, drop}
use Rattle.signal_blocks.specs.Faults.{long_fault}
use Rattle.signal_blocks.proofs.block_cuts.faults.long_fault.Given as goal

abbrev pub invariant-walks : goal.invariant-walks
invariant-walks l = long_fault l.sights (drop l.walk-index l.walks) ≡ long_fault l.sights l.walks
