use Rattle.std.proofs.Common.{◌≡◌, ◌∙◌, subst, sym}
use Rattle.label_search.specs.Paths.{IsPath, PathFits, arrival}
use Rattle.label_search.proofs.paths.path_to.Goals as goal

pub returns-clause-path : goal.returns-clause-path
returns-clause-path c = subst (IsPath c.args.plan.now c.args.trip.now) (sym (c.from_vec.ensures ∙ c.reverse.ensures.items)) c.in_ok-push_back.ensures.path

pub returns-clause-fits : goal.returns-clause-fits
returns-clause-fits c = subst (PathFits c.args.plan.now c.args.book.now) (sym (c.from_vec.ensures ∙ c.reverse.ensures.items)) c.in_ok-push_back.ensures.fits

pub returns-clause-arrival : goal.returns-clause-arrival
returns-clause-arrival c = subst (λ steps. arrival c.args.plan.now steps ≡ c.args.ending.now.arrive.from) (sym (c.from_vec.ensures ∙ c.reverse.ensures.items)) c.in_ok-push_back.ensures.arrival
