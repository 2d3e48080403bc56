use Rattle.std.specs.Prelude.{◌≡◌, ℤ, ◌<ℤ◌, ◌≤ℤ◌, ◌+ℤ◌, pos}
use Rattle.std.specs.Int.{int_gap}
use Rattle.free_windows.specs.Free.{Holds}
use Rattle.label_search.specs.Labels.{IsCovered, IsGrown, IsPartOf, IsReached}
use Rattle.label_search.proofs.labels.extend.Given as goal

abbrev pub invariant-loop-rest : goal.invariant-loop-rest
invariant-loop-rest l = record {
  from : l.wanted.ticks.from ≤ℤ l.rest.from;
  to : l.rest.to ≡ l.wanted.ticks.to;
  covered : IsCovered l.labels.items l.wanted.place l.wanted.ready l.seen;
  grown : IsGrown (IsPartOf l.wanted) l.fn.labels.items l.labels.items;
  reached : (tick : ℤ) → Holds l.wanted.ticks tick → tick <ℤ l.rest.from → IsReached l.labels.items l.wanted.place l.wanted.ready tick;
}

abbrev pub decreases-loop-rest : goal.decreases-loop-rest
decreases-loop-rest l = int_gap l.rest.from (l.wanted.ticks.to +ℤ pos 1)
