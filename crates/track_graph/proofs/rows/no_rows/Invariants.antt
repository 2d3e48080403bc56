use Rattle.std.proofs.Common.{[]}
use Rattle.track_graph.specs.StandRows.{ShowStands}
use Rattle.track_graph.proofs.rows.no_rows.Given as goal

abbrev pub invariant-tracks : goal.invariant-tracks
invariant-tracks l = ShowStands l.counter [] l.rows.items
