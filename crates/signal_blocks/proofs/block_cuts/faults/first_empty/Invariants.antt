use Rattle.std.proofs.Common.{◌≡◌, drop, None}
use Rattle.signal_blocks.specs.Faults.{empty_behind}
use Rattle.signal_blocks.proofs.block_cuts.faults.first_empty.Given as goal

abbrev pub invariant-cuts : goal.invariant-cuts
invariant-cuts l = empty_behind l.passed l.before (drop l.cut-index l.cuts) ≡ empty_behind l.passed None l.cuts
