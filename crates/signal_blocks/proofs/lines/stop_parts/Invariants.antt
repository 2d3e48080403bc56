use Rattle.std.proofs.Common.{◌≡◌, ◌++◌, drop}
use Rattle.signal_blocks.specs.Lines.{parts_from, stop_parts}
use Rattle.signal_blocks.proofs.lines.stop_parts.Given as goal

abbrev pub invariant-points : goal.invariant-points
invariant-points l = record {
  count : l.stop ≡ l.point-index;
  rest : l.parts ++ parts_from l.stop (drop l.point-index l.points) ≡ stop_parts l.points;
}
