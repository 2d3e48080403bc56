use Rattle.stair_pieces.proofs.Stairs.{steps_are_the_stairway}
use Rattle.stair_pieces.proofs.laws.steps_are_the_stairway.Goals as goal

pub returns : goal.returns
returns c = steps_are_the_stairway c.networks_without_flaws.ensures.limits c.legs_are_the_runs.ensures c.the_first_broken_rule_is_told.ensures c.joined_claims_are_one.ensures
