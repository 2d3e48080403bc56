use Rattle.std.proofs.Common.{IfOk, subst, sym}
use Rattle.label_search.specs.Limits.{IsConsistent}
use Rattle.label_search.specs.Found.{IsFoundBelow}
use Rattle.label_search.proofs.finds.find_lent_below.Goals as goal

pub path_found-requires-clause-consistent : goal.path_found-requires-clause-consistent
path_found-requires-clause-consistent c = subst (λ limits. IsConsistent c.args.plan.now limits.ahead) (sym c.in_ok-search.ensures.limits) c.requires.consistent

pub returns : goal.returns
returns c = subst (λ limits. IfOk c.path_found.result (IsFoundBelow c.args.plan.now c.args.trip.now c.args.book.now limits.below)) c.in_ok-search.ensures.limits c.path_found.ensures
