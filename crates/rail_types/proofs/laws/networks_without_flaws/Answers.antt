use Rattle.rail_types.proofs.SoundNets.{blocks_within, blocks_of, sound}
use Rattle.rail_types.proofs.laws.networks_without_flaws.Goals as goal

pub returns-clause-limits : goal.returns-clause-limits
returns-clause-limits c = blocks_within

pub returns-clause-blocks : goal.returns-clause-blocks
returns-clause-blocks c = blocks_of

pub returns-clause-sound : goal.returns-clause-sound
returns-clause-sound c = sound
