use Rattle.stair_pieces.proofs.Paths.{moves_make_a_path}
use Rattle.stair_pieces.proofs.laws.moves_make_a_path.Goals as goal

pub returns : goal.returns
returns c = moves_make_a_path c.legs_are_the_runs.ensures c.the_first_broken_rule_is_told.ensures
