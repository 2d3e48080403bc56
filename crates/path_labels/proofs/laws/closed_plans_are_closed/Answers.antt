use Rattle.path_labels.proofs.Closing.{closed_alike}
use Rattle.path_labels.proofs.laws.closed_plans_are_closed.Goals as goal

pub returns : goal.returns
returns c = closed_alike c.windows_change_no_places.ensures
