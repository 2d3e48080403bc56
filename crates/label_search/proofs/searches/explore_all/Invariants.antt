use Rattle.std.specs.Prelude.{◌≡◌, ◌≤◌, ◌-◌, ◌^◌, length}
use Rattle.label_search.specs.Search.{IsSearch, IsStarted, IsExploredTo}
use Rattle.label_search.proofs.searches.explore_all.Given as goal

abbrev pub invariant-loop-next : goal.invariant-loop-next
invariant-loop-next l = record {
  search : IsSearch l.plan l.trip l.book l.search;
  started : IsStarted l.plan l.trip l.search;
  explored : IsExploredTo l.plan l.trip l.book (λ search. l.next) l.search;
  limits : l.search.limits ≡ l.fn.limits;
  within : l.next ≤ length l.search.labels.labels;
}

abbrev pub decreases-loop-next : goal.decreases-loop-next
decreases-loop-next l = 2 ^ 64 - l.next
