use Rattle.track_graph.specs.Joints.{AreJoints}
use Rattle.track_graph.proofs.joints.name_ports.Given as goal

abbrev pub invariant-ports : goal.invariant-ports
invariant-ports l = AreJoints l.switches l.number l.port l.joints
