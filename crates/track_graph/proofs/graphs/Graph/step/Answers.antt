use Rattle.std.proofs.Common.{◌≡◌, ◌∙◌, ap, length, map, subst, sym, List}
use Rattle.std.specs.Prelude.{slice_get}
use Rattle.rail_types.specs.declared.infra_types.ends.TrackEnd.{TrackEnd}
use Rattle.rail_types.specs.declared.infra_types.infras.Infra.{Infra}
use Rattle.track_graph.specs.Joints.{AreJoints, junction_of}
use Rattle.track_graph.specs.Layouts.{Layout}
use Rattle.track_graph.proofs.Wayfinding.{no_port, no_way, way_leads}
use Rattle.track_graph.proofs.graphs.Graph.step.Goals as goal

pub returns-in_default : goal.returns-in_default
returns-in_default c =
    let infra = ap (λ (l : Layout). l.infra) c.self.view_is in
    let named = subst (λ (i : Infra). AreJoints i.switches (length i.switches) 0 c.self.inside.joints.items) infra c.self.invariant.named in
    no_port c.args.self.now.infra.switches c.self.inside.joints.items named c.args.end c.args.group (sym (rw c.deref.ensures.value at c.in_default.ensures))

pub returns-in_default-port_across : goal.returns-in_default-port_across
returns-in_default-port_across c =
    let infra = ap (λ (l : Layout). l.infra) c.self.view_is in
    let named = subst (λ (i : Infra). AreJoints i.switches (length i.switches) 0 c.self.inside.joints.items) infra c.self.invariant.named in
    let kept = c.self.invariant.kept ∙ ap (λ (i : Infra). map junction_of i.switches) infra in
    no_way c.args.self.now.infra.switches c.self.inside.joints.items named c.args.end c.self.inside.junctions.items kept c.args.group c.in-Some.joint (sym (rw c.deref.ensures.value at c.in-Some.ensures)) c.index-junction.result.now c.index-junction.ensures (sym c.in_default-port_across.ensures)

pub returns : goal.returns
returns c = λ next.
    let infra = ap (λ (l : Layout). l.infra) c.self.view_is in
    let named = subst (λ (i : Infra). AreJoints i.switches (length i.switches) 0 c.self.inside.joints.items) infra c.self.invariant.named in
    let kept = c.self.invariant.kept ∙ ap (λ (i : Infra). map junction_of i.switches) infra in
    let told : c.end_at.result ≡ slice_get c.index-junction.result.now.ports c.in-Some-port_across.other = c.end_at.ensures ∙ ap (λ (ports : List TrackEnd). slice_get ports c.in-Some-port_across.other) c.as_slice.ensures in
    let leads = way_leads c.args.self.now.infra.switches c.self.inside.joints.items named c.args.end c.self.inside.junctions.items kept c.args.group c.in-Some.joint (sym (rw c.deref.ensures.value at c.in-Some.ensures)) c.index-junction.result.now c.index-junction.ensures c.in-Some-port_across.other (sym c.in-Some-port_across.ensures) next in
    ((λ e. leads.0 (sym told ∙ e)), (λ way. told ∙ leads.1 way))
