use Rattle.signal_blocks.proofs.TrackRows.{limits_of_row}
use Rattle.signal_blocks.proofs.block_cuts.speeds.least_at.Goals as goal

pub returns : goal.returns
returns c = let row = limits_of_row c.args.ranges.now c.args.stretch.now in cc
