use Rattle.std.proofs.Common.{◌≡◌, map, take, Some}
use Rattle.track_graph.proofs.numbering.numbers_of.Given as goal

abbrev pub invariant-marks : goal.invariant-marks
invariant-marks l = map Some l.numbers.items ≡ take l.mark-index l.initial.marks
