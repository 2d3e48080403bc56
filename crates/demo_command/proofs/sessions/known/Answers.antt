use Rattle.std.proofs.Common.{◌≤◌, length, subst, sym}
use Rattle.rail_types.specs.declared.named_network.Named.{Named}
use Rattle.rail_types.specs.declared.limits.TheConstants.{MAX_OBJECTS}
use Rattle.demo_command.proofs.Sound.{blocks_few}
use Rattle.demo_command.proofs.sessions.known.Goals as goal

pub new-requires-clause-blocks : goal.new-requires-clause-blocks
new-requires-clause-blocks c = subst (λ (railway : Named). length railway.network.blocks ≤ MAX_OBJECTS) (sym c.in_ok-railway.ensures) blocks_few
