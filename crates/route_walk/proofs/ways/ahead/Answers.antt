use Rattle.std.proofs.Common.{◌≡◌, ◌∙◌, sym, subst, ap, Some, None}
use Rattle.rail_types.specs.declared.infra_types.ends.TrackEnd.{TrackEnd}
use Rattle.route_walk.specs.declared.places.Place.{Place}
use Rattle.route_walk.specs.Ways.{IsLead}
use Rattle.route_walk.specs.Places.{come}
use Rattle.route_walk.proofs.Coming.{comes_nowhere, comes_across, across_comes}
use Rattle.route_walk.proofs.ways.ahead.Goals as goal

pub returns-in_default-clause-next : goal.returns-in_default-clause-next
returns-in_default-clause-next c next = (
  (λ e. absurd (cc)),
  (λ comes. absurd (comes_nowhere c.args.infra.now c.args.graph.now c.args.ways.now c.args.place.now.spot c.args.place.now.point next (sym c.is_some.ensures ∙ c.if-is_some.false)
      (subst (λ (e : TrackEnd). IsLead c.args.graph.now c.args.ways.now e None) c.end_of.ensures (subst (IsLead c.args.graph.now c.args.ways.now c.end_of.result) c.in_default.is c.leads.ensures.lead)) comes)),
)

pub returns-clause-next : goal.returns-clause-next
returns-clause-next c next =
    let lead = subst (λ (e : TrackEnd). IsLead c.args.graph.now c.args.ways.now e (Some c.in-Some.end)) c.end_of.ensures (subst (IsLead c.args.graph.now c.args.ways.now c.end_of.result) c.in-Some.is c.leads.ensures.lead) in
    let is = c.come-2.ensures.place ∙ ap (come c.args.infra.now c.args.graph.now) c.begin_of-spot.ensures.spot in
    let none = sym c.is_some.ensures ∙ c.if-is_some.false in (
      (λ e. (let same : c.come-2.result ≡ next = (cc) in across_comes c.args.infra.now c.args.graph.now c.args.ways.now c.args.place.now.spot c.args.place.now.point c.in-Some.end next none lead (sym same ∙ is))),
      (λ comes. ap (λ (p : Place). Some p) (is ∙ sym (comes_across c.args.infra.now c.args.graph.now c.args.ways.now c.args.place.now.spot c.args.place.now.point c.in-Some.end next none lead comes))),
    )
