use Rattle.std.proofs.Common.{◌≡◌, drop, min}
use Rattle.std.specs.List.{fold}
use Rattle.signal_blocks.specs.Speeds.{limits_on, least_limit}
use Rattle.signal_blocks.proofs.block_cuts.speeds.least_limit.Given as goal

abbrev pub invariant-stretches : goal.invariant-stretches
invariant-stretches l = fold min l.least (limits_on l.ranges (drop l.stretch-index l.stretches)) ≡ least_limit l.ranges l.stretches
