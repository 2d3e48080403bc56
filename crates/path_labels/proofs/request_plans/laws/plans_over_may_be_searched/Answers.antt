use Rattle.path_labels.proofs.Searching.{plans_over_may_be_searched}
use Rattle.path_labels.proofs.request_plans.laws.plans_over_may_be_searched.Goals as goal

pub returns : goal.returns
returns c =
    let claims = c.pieces_are_claims.ensures in
    plans_over_may_be_searched c.sound_networks_are_asked.ensures claims.pieces claims.standing claims.places
