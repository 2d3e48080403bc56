use Rattle.std.proofs.Common.{◌≡◌, drop, min}
use Rattle.std.specs.List.{fold}
use Rattle.signal_blocks.specs.Speeds.{limits_in}
use Rattle.signal_blocks.proofs.block_cuts.speeds.least_in.Given as goal

abbrev pub invariant-row : goal.invariant-row
invariant-row l = fold min l.least (limits_in (drop l.range-index l.row) l.stretch) ≡ fold min l.speed (limits_in l.row l.stretch)
