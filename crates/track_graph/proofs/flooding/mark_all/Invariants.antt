use Rattle.std.proofs.Common.{take}
use Rattle.track_graph.specs.Marks.{AreMarked}
use Rattle.track_graph.proofs.flooding.mark_all.Given as goal

abbrev pub invariant-row : goal.invariant-row
invariant-row l = AreMarked (take l.piece-index l.pieces) l.zone l.initial.marks l.marks l.initial.waiting.items l.waiting.items
