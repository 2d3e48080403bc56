use Rattle.std.proofs.Common.{arith}
use Rattle.std.proofs.lemmas.List.{take_more}
use Rattle.track_graph.specs.declared.neighbours.Join.{Join}
use Rattle.track_graph.proofs.NeighbourRows.{rows_more}
use Rattle.track_graph.proofs.neighbours.add_all.Goals as goal

pub joins-preserved : goal.joins-preserved
joins-preserved c =
    let join : Join = record { one = 0; other = 0 } in
    let within = c.requires.within c.joins.join-index join c.joins-test.true in
    rw (take_more c.args.joins.now c.joins.join-index join c.joins-test.true) (rows_more _ _ _ _ _ c.joins.invariant (omega (arith, within.0, c.joins.auto.rows)) (omega (arith, within.1, c.joins.auto.rows, c.add_neighbour.auto.rows)) c.in_ok-add_neighbour.ensures.ok c.in_ok-add_neighbour-2.ensures.ok)
