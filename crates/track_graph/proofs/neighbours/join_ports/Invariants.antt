use Rattle.std.proofs.Common.{◌≡◌, ◌++◌, map, take, List}
use Rattle.track_graph.specs.Neighbours.{piece_by}
use Rattle.track_graph.specs.declared.neighbours.Join.{Join}
use Rattle.track_graph.proofs.neighbours.join_ports.Given as goal

abbrev pub invariant-ports : goal.invariant-ports
invariant-ports l = ◌≡◌ {A = List Join} l.joins.items (l.initial.joins.items ++ map (λ port. record { one = l.one; other = piece_by l.firsts port }) (take l.port-index l.ports))
