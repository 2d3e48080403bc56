use Rattle.std.proofs.Common.{◌≡◌, ℕ, ◌<◌, length}
use Rattle.label_search.specs.Charts.{spot_at}
use Rattle.path_labels.specs.TrainCharts.{IsChartedAt}
use Rattle.path_labels.proofs.train_charts.chart_of.Given as goal

abbrev pub invariant-loop-number : goal.invariant-loop-number
invariant-loop-number l = record {
  counted : length l.charted ≡ l.number;
  spots : (number : ℕ) → number < l.number → IsChartedAt l.net l.settings l.train l.spots number (spot_at l.charted number);
}
