use Rattle.std.proofs.Common.{All, subst, sym}
use Rattle.std.proofs.lemmas.Result.{on_ok_weaker}
use Rattle.label_search.specs.Search.{IsFrontOf}
use Rattle.label_search.specs.Labels.{IsIn}
use Rattle.label_search.proofs.Growth.{further_none}
use Rattle.label_search.proofs.Starting.{explored_more, fronts_within}
use Rattle.label_search.proofs.searches.explore_from.Goals as goal

pub returns-in_err-fronts-clause-further : goal.returns-in_err-fronts-clause-further
returns-in_err-fronts-clause-further c = further_none _

pub explore_fronts-requires-clause-fronts : goal.explore_fronts-requires-clause-fronts
explore_fronts-requires-clause-fronts c =
    subst (All (IsFrontOf c.args.plan.now c.args.search.now)) (sym c.as_slice.ensures.value) (fronts_within c.args.plan.now c.args.trip.now c.args.book.now c.args.search.now _ c.requires.search c.in_ok-fronts.ensures.some c.in_ok-fronts.ensures.sound)

pub returns-clause-explored : goal.returns-clause-explored
returns-clause-explored c = on_ok_weaker c.explore_fronts.result
    (λ all. explored_more c.args.plan.now c.args.trip.now c.args.book.now c.args.search.now _ c.args.from c.in_ok-fronts.fronts.items c.explore_fronts.ensures.further c.requires.explored c.in_ok-fronts.ensures.complete
    (λ place ready tick is. all place ready tick (subst (λ fronts. IsIn fronts place ready tick) (sym c.as_slice.ensures.value) is)))
    c.explore_fronts.ensures.explored
