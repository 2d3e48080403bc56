use Rattle.std.proofs.Common.{take}
use Rattle.tail_states.specs.Following.{AreServedBy}
use Rattle.tail_states.proofs.adjacency.add_served.Given as goal

abbrev pub invariant-loop-stop : goal.invariant-loop-stop
invariant-loop-stop l = AreServedBy (take l.stop-index l.block.serves) l.number l.initial.serving l.serving
