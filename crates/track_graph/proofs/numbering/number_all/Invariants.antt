use Rattle.track_graph.specs.Marks.{AreNumbered}
use Rattle.track_graph.proofs.numbering.number_all.Given as goal

abbrev pub invariant-starts : goal.invariant-starts
invariant-starts l = AreNumbered l.rows l.start l.count l.marks
