use Rattle.tail_states.proofs.Bounding.{spots_bound_places}
use Rattle.tail_states.proofs.laws.spots_bound_places.Goals as goal

pub returns : goal.returns
returns c = spots_bound_places
