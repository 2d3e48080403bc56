use Rattle.std.specs.Prelude.{◌≡◌, ℕ, ℤ, ◌<◌, drop}
use Rattle.free_windows.specs.Free.{Holds}
use Rattle.label_search.specs.Paths.{place_at}
use Rattle.label_search.specs.Search.{IsSearch, IsFurther, IsMoveExplored}
use Rattle.label_search.proofs.searches.explore_moves.Given as goal

abbrev pub invariant-loop-number : goal.invariant-loop-number
invariant-loop-number l = record {
  search : IsSearch l.plan l.trip l.book l.search;
  further : IsFurther l.fn.search l.search;
  explored : (tick : ℤ) → Holds l.front.ticks tick → (number : ℕ) → number < l.number → IsMoveExplored l.plan l.trip l.book l.front.place tick number l.search;
  left : drop l.number (place_at l.plan l.front.place).moves ≡ l.left;
}
