use Rattle.std.specs.Prelude.{◌≡◌, ℕ, ℤ, ◌<◌, drop}
use Rattle.free_windows.specs.Free.{Holds}
use Rattle.label_search.specs.Paths.{place_at}
use Rattle.label_search.specs.Search.{IsSearch}
use Rattle.label_search.specs.Pending.{IsAdvanced, IsMoveInHand}
use Rattle.label_search.proofs.firsts.leave_moves.Given as goal

abbrev pub invariant-loop-number : goal.invariant-loop-number
invariant-loop-number l = record {
  search : IsSearch l.plan l.trip l.book l.search;
  advanced : IsAdvanced l.plan l.fn.search l.search l.fn.queue l.queue;
  done : (tick : ℤ) → Holds l.front.ticks tick → (number : ℕ) → number < l.number → IsMoveInHand l.plan l.trip l.book l.search l.queue l.label l.front.place tick number;
  left : drop l.number (place_at l.plan l.front.place).moves ≡ l.left;
}
