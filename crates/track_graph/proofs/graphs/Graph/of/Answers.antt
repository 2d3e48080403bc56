use Rattle.std.proofs.Common.{◌∙◌, ap, sym, Some, List, ℕ}
use Rattle.track_graph.proofs.PortsNamed.{joints_once}
use Rattle.track_graph.proofs.graphs.Graph.of.Goals as goal

pub returns-in-Some-clause-fault : goal.returns-in-Some-clause-fault
returns-in-Some-clause-fault c =
    (joints_once c.args.infra.now.switches c.in_ok-joints.joints.items c.in_ok-joints.ensures.joints, sym c.in-Some.ensures ∙ ap (λ (n : List ℕ). Some n) (sym c.in_ok-copy.ensures))
