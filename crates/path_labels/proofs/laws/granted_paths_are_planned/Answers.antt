use Rattle.path_labels.proofs.Planning.{granted_planned}
use Rattle.path_labels.proofs.laws.granted_paths_are_planned.Goals as goal

pub returns : goal.returns
returns c = granted_planned c.a_path_is_a_list_of_moves.ensures c.a_path_fits_run_by_run.ensures
