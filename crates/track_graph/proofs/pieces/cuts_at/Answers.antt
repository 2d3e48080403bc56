use Rattle.track_graph.proofs.Cuttings.{cuts_are}
use Rattle.track_graph.proofs.pieces.cuts_at.Goals as goal

pub returns-clause-cuts : goal.returns-clause-cuts
returns-clause-cuts c = cuts_are _ _ _ _ c.in_ok-cuts.ensures c.sort_unstable.ensures.permutation c.sort_unstable.ensures.sorted c.dedup.ensures.filtered
