use Rattle.std.proofs.Common.{◌≤◌, ◌≤ℤ◌, length}
use Rattle.std.specs.List.{AllWithin}
use Rattle.free_windows.proofs.frees.first_ending_near.Given as goal

abbrev pub invariant-loop-at : goal.invariant-loop-at
invariant-loop-at l = record {
  bound : l.hint ≤ length l.kept.claims;
  before : AllWithin (λ one. one.0.span.to ≤ℤ l.span.from) l.kept.claims 0 l.at;
}
