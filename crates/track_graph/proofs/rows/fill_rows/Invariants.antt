use Rattle.std.proofs.Common.{take, length}
use Rattle.track_graph.specs.StandRows.{ShowStands}
use Rattle.track_graph.proofs.rows.fill_rows.Given as goal

abbrev pub invariant-fills : goal.invariant-fills
invariant-fills l = ShowStands (length l.initial.rows) (take l.stand-index l.listed) l.rows
