use Rattle.path_labels.proofs.Narrow.{have_the_places}
use Rattle.path_labels.proofs.laws.courses_have_the_places.Goals as goal

pub returns : goal.returns
returns c = have_the_places c.windows_change_no_places.ensures
