use Rattle.track_graph.specs.StandRows.{AreFront}
use Rattle.track_graph.proofs.stands.stands_in_file_order.Given as goal

abbrev pub invariant-placed : goal.invariant-placed
invariant-placed l = AreFront l.placed l.number l.listed.items
