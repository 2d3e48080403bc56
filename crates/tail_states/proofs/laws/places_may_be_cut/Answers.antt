use Rattle.tail_states.proofs.Entering.{places_may_be_cut}
use Rattle.tail_states.proofs.laws.places_may_be_cut.Goals as goal

pub returns : goal.returns
returns c = places_may_be_cut
