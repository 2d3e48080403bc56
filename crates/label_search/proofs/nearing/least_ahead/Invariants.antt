use Rattle.std.specs.Prelude.{◌≤ℤ◌}
use Rattle.std.specs.List.{AllWithin}
use Rattle.label_search.specs.Charts.{spot_at}
use Rattle.label_search.specs.Limits.{IsAhead}
use Rattle.label_search.specs.Nearing.{sum_ahead}
use Rattle.label_search.proofs.nearing.least_ahead.Given as goal

abbrev pub invariant-loop-number : goal.invariant-loop-number
invariant-loop-number l = record {
  ahead : IsAhead l.least;
  least : AllWithin (λ spot. l.least.ticks ≤ℤ sum_ahead (spot_at l.chart.spots spot).standing l.call l.near l.rest spot) l.behind 0 l.number-index;
}
