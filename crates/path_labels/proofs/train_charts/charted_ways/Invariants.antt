use Rattle.std.proofs.Common.{◌≡◌, map, take}
use Rattle.path_labels.specs.TrainCharts.{way_in}
use Rattle.path_labels.proofs.train_charts.charted_ways.Given as goal

abbrev pub invariant-loop-way : goal.invariant-loop-way
invariant-loop-way l = l.charted ≡ map (way_in l.net l.settings l.train l.spot) (take l.way-index l.ways)
