use Rattle.std.proofs.Common.{take}
use Rattle.track_graph.specs.Neighbours.{ShowJoins}
use Rattle.track_graph.proofs.neighbours.add_all.Given as goal

abbrev pub invariant-joins : goal.invariant-joins
invariant-joins l = ShowJoins l.rows (take l.join-index l.joins)
