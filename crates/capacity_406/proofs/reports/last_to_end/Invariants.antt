use Rattle.std.proofs.Common.{ℕ, ◌<◌, length}
use Rattle.std.specs.Prelude.{◌≤ℤ◌}
use Rattle.capacity_406.specs.Telling.{ends_at}
use Rattle.capacity_406.proofs.reports.last_to_end.Given as goal

-- the train that ends last of those so far
abbrev pub invariant-loop-train : goal.invariant-loop-train
invariant-loop-train l = record {
  bound : l.last < length l.firsts;
  last : (other : ℕ) → other < l.train → ends_at l.firsts l.shifts other ≤ℤ ends_at l.firsts l.shifts l.last;
}
