use Rattle.std.proofs.Common.{◌≡◌, ◌++◌, drop}
use Rattle.signal_blocks.specs.Lines.{speed_ranges}
use Rattle.signal_blocks.proofs.lines.speed_ranges.Given as goal

abbrev pub invariant-sections : goal.invariant-sections
invariant-sections l = l.ranges ++ speed_ranges (drop l.section-index l.sections) ≡ speed_ranges l.sections
