use Rattle.std.proofs.Common.{subst, length, [], arith, ◌+◌}
use Rattle.std.proofs.lemmas.List.Sums.{sum_by_more_le}
use Rattle.track_graph.specs.Layouts.{IsLayout}
use Rattle.track_graph.specs.Pieces.{first_of}
use Rattle.track_graph.proofs.graphs.Graph.zone_of.Goals as goal

pub returns-clause-below : goal.returns-clause-below
returns-clause-below c =
    let layout = c.args.self.now in
    let sound : IsLayout layout = subst IsLayout c.self.view_is c.self.invariant.sound in
    let long = sound.pieces.long in
    sound.zones.below (first_of layout.pieces c.args.track + c.args.piece) (omega (arith, c.requires.piece, sum_by_more_le length layout.pieces c.args.track [] (omega (arith, c.requires.track))))
