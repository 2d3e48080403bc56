use Rattle.std.proofs.Common.{◌≡◌}
use Rattle.demo_command.specs.Railways.{first_blocks}
use Rattle.demo_command.proofs.railways.blocks.Given as goal

abbrev pub invariant-loop-at : goal.invariant-loop-at
invariant-loop-at l = l.blocks ≡ first_blocks l.at
