use Rattle.std.proofs.Common.{subst}
use Rattle.track_graph.specs.Layouts.{IsLayout}
use Rattle.track_graph.proofs.PieceOrders.{pieces_rise, pieces_some}
use Rattle.track_graph.proofs.graphs.Graph.pieces.Goals as goal

pub returns-clause-cut : goal.returns-clause-cut
returns-clause-cut c = (subst IsLayout c.self.view_is c.self.invariant.sound).pieces.each c.args.track c.requires

pub returns-clause-some : goal.returns-clause-some
returns-clause-some c = pieces_some _ _ _ _ ((subst IsLayout c.self.view_is c.self.invariant.sound).pieces.each c.args.track c.requires)

pub returns-clause-order : goal.returns-clause-order
returns-clause-order c = pieces_rise _ _ _ _ ((subst IsLayout c.self.view_is c.self.invariant.sound).pieces.each c.args.track c.requires)
