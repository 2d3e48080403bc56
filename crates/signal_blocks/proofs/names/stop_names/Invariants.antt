use Rattle.std.proofs.Common.{◌≡◌, ◌++◌, drop}
use Rattle.signal_blocks.specs.Names.{stop_names}
use Rattle.signal_blocks.proofs.names.stop_names.Given as goal

abbrev pub invariant-points : goal.invariant-points
invariant-points l = l.names ++ stop_names (drop l.point-index l.points) ≡ stop_names l.points
