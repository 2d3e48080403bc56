use Rattle.tail_states.proofs.Sound.{sound_are_asked}
use Rattle.tail_states.proofs.laws.sound_networks_are_asked.Goals as goal

pub returns : goal.returns
returns c =
    let law = c.networks_without_flaws.ensures in
    sound_are_asked law.limits law.blocks law.counts
