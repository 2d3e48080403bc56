use Rattle.std.proofs.Common.{arith, sym, subst}
use Rattle.std.proofs.lemmas.List.{take_more, take_all}
use Rattle.label_search.specs.Labels.{IsIn}
use Rattle.label_search.proofs.Growth.{further_none, further_more}
use Rattle.label_search.proofs.Starting.{explored_push}
use Rattle.label_search.proofs.searches.explore_fronts.Goals as goal

pub loop-front-init : goal.loop-front-init
loop-front-init c = record {
  search = c.requires.search;
  further = further_none _;
  explored = λ place ready tick is. absurd (omega (arith, is.2));
}

pub returns-in_err-explore-clause-further : goal.returns-in_err-explore-clause-further
returns-in_err-explore-clause-further c = further_more _ _ _ c.loop-front.invariant.further c.in_err-explore.ensures.further

pub loop-front-preserved : goal.loop-front-preserved
loop-front-preserved c = record {
  search = c.explore.ensures.search;
  further = further_more _ _ _ c.loop-front.invariant.further c.explore.ensures.further;
  explored = explored_push c.args.plan.now c.args.trip.now c.args.book.now _ _ c.explore.ensures.further _ _ _ (take_more c.args.fronts.now c.loop-front.front-index _ c.loop-front-test.true) c.loop-front.invariant.explored c.in_ok-explore.ensures.explored;
}

pub returns-clause-explored : goal.returns-clause-explored
returns-clause-explored c place ready tick is = c.loop-front.invariant.explored place ready tick (subst (λ fronts. IsIn fronts place ready tick) (sym (take_all c.loop-front.front-index c.args.fronts.now (omega arith))) is)
