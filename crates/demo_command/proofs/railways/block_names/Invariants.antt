use Rattle.std.proofs.Common.{◌≡◌}
use Rattle.demo_command.specs.Railways.{first_block_names}
use Rattle.demo_command.proofs.railways.block_names.Given as goal

abbrev pub invariant-loop-at : goal.invariant-loop-at
invariant-loop-at l = l.names ≡ first_block_names l.at
