use Rattle.std.proofs.Common.{IfOk, subst, sym}
use Rattle.label_search.specs.Limits.{IsConsistent}
use Rattle.label_search.specs.Sought.{IsSearched}
use Rattle.label_search.proofs.seeks.search_lent.Goals as goal

pub sought_by-requires-clause-consistent : goal.sought_by-requires-clause-consistent
sought_by-requires-clause-consistent c = subst (λ limits. IsConsistent c.args.plan.now limits.ahead) (sym c.in_ok-search.ensures.limits) c.requires.consistent

pub returns : goal.returns
returns c = subst (λ limits. IfOk c.sought_by.result (IsSearched c.args.plan.now c.args.trip.now c.args.book.now limits)) c.in_ok-search.ensures.limits c.sought_by.ensures
