use Rattle.std.proofs.Common.{subst, arith, sym, ◌∙◌}
use Rattle.label_search.specs.Search.{IsExploredTo}
use Rattle.label_search.proofs.Covers.{reached_more}
use Rattle.label_search.proofs.Growth.{length_grown}
use Rattle.label_search.proofs.searches.explore_all.Goals as goal

pub loop-next-preserved : goal.loop-next-preserved
loop-next-preserved c =
    let old = c.loop-next.invariant in
    let further = c.explore_from.ensures.further in
    let counted = length_grown (λ label. Unit {0}) _ _ further.grown in
    record {
      search = c.explore_from.ensures.search;
      started = λ enter departs low high. reached_more (λ label. Unit {0}) _ _ _ _ enter further.grown (old.started enter departs low high);
      explored = subst (λ n. IsExploredTo c.args.plan.now c.args.trip.now c.args.book.now (λ search. n) c.explore_from.new.search) (sym c.len-end.ensures) c.in_ok-explore_from.ensures.explored;
      limits = further.limits ∙ old.limits;
      within = omega (arith, c.len-end.ensures);
    }

pub returns-clause-explored : goal.returns-clause-explored
returns-clause-explored c number within tick held = c.loop-next.invariant.explored number (omega (arith, c.len.ensures)) tick held
