use Rattle.std.proofs.Common.{◌≡◌, ◌++◌}
use Rattle.signal_blocks.specs.Names.{route_parts}
use Rattle.signal_blocks.proofs.names.add_parts.Given as goal

abbrev pub invariant-parts : goal.invariant-parts
invariant-parts l = l.names ≡ l.initial.names ++ route_parts l.id l.part
