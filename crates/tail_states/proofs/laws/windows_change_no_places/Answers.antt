use Rattle.tail_states.proofs.Windows.{windows_change_no_places}
use Rattle.tail_states.proofs.laws.windows_change_no_places.Goals as goal

pub returns : goal.returns
returns c = windows_change_no_places
