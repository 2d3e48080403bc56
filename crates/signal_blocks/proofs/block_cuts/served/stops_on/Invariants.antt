use Rattle.std.proofs.Common.{◌≡◌, ◌++◌, drop}
use Rattle.signal_blocks.specs.Served.{stops_on}
use Rattle.signal_blocks.proofs.block_cuts.served.stops_on.Given as goal

abbrev pub invariant-stretches : goal.invariant-stretches
invariant-stretches l = l.stops.items ++ stops_on l.parts (drop l.stretch-index l.stretches) ≡ stops_on l.parts l.stretches
