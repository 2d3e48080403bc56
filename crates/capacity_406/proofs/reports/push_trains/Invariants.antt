use Rattle.std.proofs.Common.{◌≡◌, ◌++◌, drop, flat_map}
use Rattle.capacity_406.specs.Report.{train_line}
use Rattle.capacity_406.proofs.reports.push_trains.Given as goal

abbrev pub invariant-loop-one : goal.invariant-loop-one
invariant-loop-one l = l.to.items ++ flat_map train_line (drop l.one-index l.told) ≡ l.fn.to.items ++ flat_map train_line l.told
