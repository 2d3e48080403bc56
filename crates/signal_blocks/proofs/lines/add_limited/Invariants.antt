use Rattle.std.proofs.Common.{◌≡◌, ◌++◌, Some, drop}
use Rattle.signal_blocks.specs.Lines.{limited}
use Rattle.signal_blocks.proofs.lines.add_limited.Given as goal

abbrev pub invariant-limits : goal.invariant-limits
invariant-limits l = l.to ++ limited (Some l.limit) (drop l.range-index l.ranges) ≡ l.initial.to ++ limited (Some l.limit) l.ranges
