use Rattle.track_graph.specs.Joints.{AreJoints}
use Rattle.track_graph.proofs.joints.name_all.Given as goal

abbrev pub invariant-switches : goal.invariant-switches
invariant-switches l = AreJoints l.switches l.number 0 l.joints
