use Rattle.std.proofs.Common.{◌+◌, ◌-◌, ◌≤◌, ◌<ℤ◌, ◌≤ℤ◌, length}
use Rattle.std.specs.List.{AllWithin}
use Rattle.occupation_book.proofs.zones.ended_by.Given as goal

abbrev pub invariant-loop-count : goal.invariant-loop-count
invariant-loop-count l = record {
  bound : l.first + l.count ≤ length l.ends;
  before : AllWithin (λ end. end ≤ℤ l.span.from) l.ends 0 l.first;
  after : AllWithin (λ end. l.span.from <ℤ end) l.ends (l.first + l.count) (length l.ends);
}

abbrev pub decreases-loop-count : goal.decreases-loop-count
decreases-loop-count l = l.count - 1
