use Rattle.std.proofs.Common.{subst}
use Rattle.track_graph.specs.Layouts.{IsLayout}
use Rattle.track_graph.proofs.Within.{detectors_within}
use Rattle.track_graph.proofs.graphs.Graph.stands.Goals as goal

pub returns-clause-row : goal.returns-clause-row
returns-clause-row c = (subst IsLayout c.self.view_is c.self.invariant.sound).stands.each c.args.track c.requires

pub returns-clause-within : goal.returns-clause-within
returns-clause-within c =
    let sound = subst IsLayout c.self.view_is c.self.invariant.sound in
    detectors_within c.args.self.now.infra c.args.track _ sound.within (sound.stands.each c.args.track c.requires)
