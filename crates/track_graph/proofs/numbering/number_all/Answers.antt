use Rattle.std.proofs.Common.{get_or, None}
use Rattle.track_graph.proofs.Marking.{some_from}
use Rattle.track_graph.proofs.Numbers.{numbers_skip, numbers_more}
use Rattle.track_graph.proofs.numbering.number_all.Goals as goal
use Rattle.track_graph.proofs.numbering.number_all.Goals.{then-is_none+in_ok-flood, else-is_none}

pub starts-preserved : goal.starts-preserved
starts-preserved c = elim c.if-is_none.branch [
  | then-is_none+in_ok-flood w ↦ rw (w.marks-is, w.count-is) (numbers_more _ _ _ _ _ c.requires.both c.starts.invariant w.in_ok-flood.ensures.ok)
  | else-is_none w ↦ rw (w.marks-is, w.count-is) (let had = some_from (get_or c.starts.marks c.starts.start None) w.if-is_none.ensures in numbers_skip _ _ _ had.0 _ c.starts.invariant had.1)
]
