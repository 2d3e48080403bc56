use Rattle.path_labels.proofs.Granting.{planned_granted}
use Rattle.path_labels.proofs.laws.planned_paths_are_granted.Goals as goal

pub returns : goal.returns
returns c = planned_granted c.moves_make_a_path.ensures c.a_path_fits_run_by_run.ensures
