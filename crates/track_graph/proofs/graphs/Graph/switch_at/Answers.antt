use Rattle.std.proofs.Common.{ap, length, subst, sym}
use Rattle.rail_types.specs.declared.infra_types.infras.Infra.{Infra}
use Rattle.track_graph.specs.Joints.{AreJoints}
use Rattle.track_graph.specs.Layouts.{Layout}
use Rattle.track_graph.proofs.Wayfinding.{no_switch, switch_told}
use Rattle.track_graph.proofs.graphs.Graph.switch_at.Goals as goal

pub returns-in_default : goal.returns-in_default
returns-in_default c =
    let infra = ap (λ (l : Layout). l.infra) c.self.view_is in
    let named = subst (λ (i : Infra). AreJoints i.switches (length i.switches) 0 c.self.inside.joints.items) infra c.self.invariant.named in
    no_switch c.args.self.now.infra.switches c.self.inside.joints.items named c.args.end (sym (rw c.deref.ensures.value at c.in_default.ensures))

pub returns : goal.returns
returns c =
    let infra = ap (λ (l : Layout). l.infra) c.self.view_is in
    let named = subst (λ (i : Infra). AreJoints i.switches (length i.switches) 0 c.self.inside.joints.items) infra c.self.invariant.named in
    switch_told c.args.self.now.infra.switches c.self.inside.joints.items named c.args.end c.in-Some.joint (sym (rw c.deref.ensures.value at c.in-Some.ensures))
