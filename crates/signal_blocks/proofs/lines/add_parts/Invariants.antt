use Rattle.std.proofs.Common.{◌≡◌, ◌++◌, drop}
use Rattle.signal_blocks.specs.Lines.{parts_of}
use Rattle.signal_blocks.proofs.lines.add_parts.Given as goal

abbrev pub invariant-parts : goal.invariant-parts
invariant-parts l = l.to ++ parts_of l.stop record { id = l.point.id; parts = drop l.part-index l.point.parts } ≡ l.initial.to ++ parts_of l.stop l.point
