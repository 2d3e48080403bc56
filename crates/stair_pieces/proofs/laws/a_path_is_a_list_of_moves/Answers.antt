use Rattle.stair_pieces.proofs.Paths.{a_path_is_a_list_of_moves}
use Rattle.stair_pieces.proofs.laws.a_path_is_a_list_of_moves.Goals as goal

pub returns : goal.returns
returns c = a_path_is_a_list_of_moves c.legs_are_the_runs.ensures c.the_first_broken_rule_is_told.ensures
