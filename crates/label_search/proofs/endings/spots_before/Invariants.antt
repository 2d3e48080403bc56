use Rattle.std.specs.Prelude.{◌≡◌, filter}
use Rattle.std.specs.List.{range_with_len}
use Rattle.label_search.specs.Charts.{spot_at}
use Rattle.label_search.specs.Endings.{has_call}
use Rattle.label_search.proofs.endings.spots_before.Given as goal

abbrev pub invariant-loop-number : goal.invariant-loop-number
invariant-loop-number l = l.before ≡ filter (λ number. has_call l.blocks (spot_at l.chart.spots number).ways) (range_with_len 0 l.number)
