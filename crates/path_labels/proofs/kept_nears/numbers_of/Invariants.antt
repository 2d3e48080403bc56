use Rattle.std.proofs.Common.{◌+◌, ◌-◌, ◌≤◌, All, length}
use Rattle.path_labels.specs.declared.kept_nears.TheConstants.{MAX_NEARS}
use Rattle.path_labels.specs.KeptNears.{IsLonger, IsNearKept}
use Rattle.path_labels.proofs.KeepingNears.{AreFirstNear}
use Rattle.path_labels.proofs.kept_nears.numbers_of.Given as goal

abbrev pub invariant-loop-call : goal.invariant-loop-call
invariant-loop-call l = record {
  room : length l.kept.items + (length l.calls - l.call-index) ≤ MAX_NEARS;
  kept : All (IsNearKept l.chart.spots) l.kept.items;
  longer : IsLonger l.fn.kept.items l.kept.items;
  numbers : AreFirstNear l.kept.items l.calls l.call-index l.numbers.items;
}
