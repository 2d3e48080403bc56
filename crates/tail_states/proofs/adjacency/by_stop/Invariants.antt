use Rattle.tail_states.specs.Following.{AreServing}
use Rattle.tail_states.proofs.adjacency.by_stop.Given as goal

abbrev pub invariant-loop-at : goal.invariant-loop-at
invariant-loop-at l = AreServing l.net l.at l.serving
