use Rattle.std.proofs.Common.{◌≡◌, drop, None}
use Rattle.signal_blocks.specs.Faults.{long_behind}
use Rattle.signal_blocks.proofs.block_cuts.faults.first_long.Given as goal

abbrev pub invariant-cuts : goal.invariant-cuts
invariant-cuts l = long_behind l.passed l.before (drop l.cut-index l.cuts) ≡ long_behind l.passed None l.cuts
