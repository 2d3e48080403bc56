use Rattle.std.proofs.Common.{◌≡◌, map, take}
use Rattle.track_graph.specs.Joints.{junction_of}
use Rattle.track_graph.proofs.graphs.junctions_of.Given as goal

abbrev pub invariant-switches : goal.invariant-switches
invariant-switches l = l.junctions.items ≡ map junction_of (take l.switch-index l.switches)
