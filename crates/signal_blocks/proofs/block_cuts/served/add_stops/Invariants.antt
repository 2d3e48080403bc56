use Rattle.std.proofs.Common.{◌≡◌, ◌++◌, drop}
use Rattle.signal_blocks.specs.Served.{stops_in}
use Rattle.signal_blocks.proofs.block_cuts.served.add_stops.Given as goal

abbrev pub invariant-row : goal.invariant-row
invariant-row l = l.stops.items ++ stops_in (drop l.part-index l.row) l.stretch ≡ l.initial.stops.items ++ stops_in l.row l.stretch
