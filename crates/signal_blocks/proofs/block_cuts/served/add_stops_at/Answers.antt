use Rattle.std.proofs.Common.{rules}
use Rattle.signal_blocks.proofs.TrackRows.{stops_of_row}
use Rattle.signal_blocks.proofs.block_cuts.served.add_stops_at.Goals as goal

pub returns : goal.returns
returns c = let row = stops_of_row c.args.parts.now c.args.stretch.now in rw (← row) (search rules)
