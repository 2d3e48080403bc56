use Rattle.std.specs.Prelude.{◌≡◌, ◌+ℤ◌, pos}
use Rattle.std.specs.Int.{int_gap}
use Rattle.occupation_book.specs.Held.{held}
use Rattle.free_windows.specs.Free.{Fits}
use Rattle.free_windows.specs.Starts.{IsNearWindow}
use Rattle.free_windows.proofs.Windows.{IsFrontOf}
use Rattle.free_windows.proofs.frees.starts.Given as goal

abbrev pub invariant-loop-next : goal.invariant-loop-next
invariant-loop-next l = record {
  near : IsNearWindow l.rest;
  to : l.rest.to ≡ l.within.to;
  front : IsFrontOf (Fits (held l.book) l.pieces) l.within l.windows.items l.rest.from;
}

abbrev pub decreases-loop-next : goal.decreases-loop-next
decreases-loop-next l = int_gap l.rest.from (l.within.to +ℤ pos 1)
