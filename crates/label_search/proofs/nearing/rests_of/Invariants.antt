use Rattle.std.proofs.Common.{◌-◌, ◌≤◌, length, map}
use Rattle.label_search.specs.Nearing.{AreRestsFrom}
use Rattle.label_search.proofs.nearing.rests_of.Given as goal

abbrev pub invariant-loop-made : goal.invariant-loop-made
invariant-loop-made l = record {
  within : l.made ≤ length l.calls - 1;
  rests : AreRestsFrom l.chart.spots l.calls (map (λ near. near.now) l.nears) l.made l.rests.items;
}

abbrev pub decreases-loop-made : goal.decreases-loop-made
decreases-loop-made l = l.made
