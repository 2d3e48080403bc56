use Rattle.std.proofs.Common.{take}
use Rattle.path_labels.proofs.Starting.{AreStartsOver}
use Rattle.path_labels.proofs.chart_courses.starts_of.Given as goal

abbrev pub invariant-loop-block : goal.invariant-loop-block
invariant-loop-block l = AreStartsOver l.net l.settings l.request l.chart.spots.spots (take l.block-index l.block-items) l.starts
