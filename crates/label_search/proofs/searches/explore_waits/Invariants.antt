use Rattle.std.specs.Prelude.{◌≡◌, ℤ, ◌≤ℤ◌, ◌+ℤ◌, pos, true}
use Rattle.std.specs.Int.{int_gap}
use Rattle.free_windows.specs.Free.{Holds}
use Rattle.label_search.specs.Paths.{place_at}
use Rattle.label_search.specs.Labels.{IsReached}
use Rattle.label_search.specs.Search.{IsSearch, IsFurther}
use Rattle.label_search.proofs.Waiting.{AreWaitsExploredTo}
use Rattle.label_search.proofs.searches.explore_waits.Given as goal

abbrev pub invariant-loop-free : goal.invariant-loop-free
invariant-loop-free l = record {
  search : IsSearch l.plan l.trip l.book l.search;
  further : IsFurther l.fn.search l.search;
  from : l.front.ticks.from ≤ℤ l.rest.from;
  to : l.rest.to ≡ l.plan.horizon;
  at_once : (place_at l.plan l.front.place).dwell ≡ pos 0 → (tick : ℤ) → Holds l.front.ticks tick → IsReached l.search.labels.labels l.front.place true tick;
  explored : AreWaitsExploredTo l.plan l.book l.front l.search l.rest.from;
}

abbrev pub decreases-loop-free : goal.decreases-loop-free
decreases-loop-free l = int_gap l.rest.from (l.rest.to +ℤ pos 1)
