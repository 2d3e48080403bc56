use Rattle.std.specs.Prelude.{ℕ, ◌<◌, All}
use Rattle.label_search.specs.Charts.{spot_at}
use Rattle.label_search.specs.Nearing.{IsNearAlong}
use Rattle.label_search.proofs.nearing.are_near.Given as goal

abbrev pub invariant-loop-number : goal.invariant-loop-number
invariant-loop-number l = (number : ℕ) → number < l.number → All (IsNearAlong l.blocks l.ticks number) (spot_at l.chart.spots number).ways
