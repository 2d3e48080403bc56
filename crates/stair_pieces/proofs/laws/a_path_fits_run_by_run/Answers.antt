use Rattle.stair_pieces.proofs.Stairs.{fits_run_by_run}
use Rattle.stair_pieces.proofs.laws.a_path_fits_run_by_run.Goals as goal

pub returns : goal.returns
returns c = fits_run_by_run c.networks_without_flaws.ensures.limits c.legs_are_the_runs.ensures c.the_first_broken_rule_is_told.ensures c.stairways_have_ticks.ensures c.joined_claims_fit_alike.ensures
