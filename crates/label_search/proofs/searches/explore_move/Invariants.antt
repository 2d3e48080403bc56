use Rattle.std.specs.Prelude.{◌≡◌, ℤ, ◌<ℤ◌, ◌≤ℤ◌, ◌+ℤ◌, ◌-ℤ◌, pos}
use Rattle.std.specs.Int.{int_gap, int_min}
use Rattle.free_windows.specs.Free.{Holds}
use Rattle.label_search.specs.Limits.{last_enter}
use Rattle.label_search.specs.Search.{IsSearch, IsFurther, IsMoveExplored}
use Rattle.label_search.proofs.searches.explore_move.Given as goal

abbrev pub invariant-loop-free : goal.invariant-loop-free
invariant-loop-free l = record {
  search : IsSearch l.plan l.trip l.book l.search;
  further : IsFurther l.fn.search l.search;
  from : l.front.ticks.from ≤ℤ l.rest.from;
  to : l.rest.to ≡ int_min (int_min l.front.ticks.to (l.plan.horizon -ℤ l.step.run)) (last_enter l.fn.search.limits l.step);
  explored : (tick : ℤ) → Holds l.front.ticks tick → tick <ℤ l.rest.from → IsMoveExplored l.plan l.trip l.book l.front.place tick l.number l.search;
}

abbrev pub decreases-loop-free : goal.decreases-loop-free
decreases-loop-free l = int_gap l.rest.from (l.rest.to +ℤ pos 1)
