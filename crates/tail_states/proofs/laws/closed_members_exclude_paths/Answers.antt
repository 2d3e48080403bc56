use Rattle.tail_states.proofs.Excluding.{excludes_all, excludes_earlier}
use Rattle.tail_states.proofs.laws.closed_members_exclude_paths.Goals as goal

pub returns-clause-earlier : goal.returns-clause-earlier
returns-clause-earlier c = excludes_earlier c.a_path_is_a_list_of_moves.ensures c.a_path_fits_run_by_run.ensures

pub returns-clause-all : goal.returns-clause-all
returns-clause-all c = excludes_all c.a_path_is_a_list_of_moves.ensures c.a_path_fits_run_by_run.ensures
