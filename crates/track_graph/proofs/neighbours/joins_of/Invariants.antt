use Rattle.std.proofs.Common.{◌≡◌, take}
use Rattle.track_graph.specs.Neighbours.{stars}
use Rattle.track_graph.proofs.neighbours.joins_of.Given as goal

abbrev pub invariant-switches : goal.invariant-switches
invariant-switches l = l.joins.items ≡ stars l.firsts (take l.switch-index l.switches)
