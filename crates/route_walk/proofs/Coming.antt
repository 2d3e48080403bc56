-- What a route comes to stands on a track.
use Rattle.std.proofs.Common.{◌≡◌, ◌∙◌, ℕ, zero, suc, ◌-◌, ◌<◌, ◌≤◌, Bool, true, false, cond, List, length, Option, Some, None, refl, sym, ap, subst, arith}
use Rattle.std.proofs.lemmas.Bool.{ne_eqb}
use Rattle.std.specs.Prelude.{slice_get, IfSome, is_some}
use Rattle.rail_types.specs.Infras.{IsInfra, IsSwitch}
use Rattle.rail_types.specs.declared.infra_types.ends.Direction.{Direction}
use Rattle.rail_types.specs.declared.infra_types.ends.Direction.TheVariants.{StartToStop, StopToStart}
use Rattle.rail_types.specs.declared.infra_types.ends.TrackEnd.{TrackEnd}
use Rattle.rail_types.specs.declared.infra_types.infras.Infra.{Infra}
use Rattle.rail_types.specs.declared.infra_types.switches.Group.{Group}
use Rattle.rail_types.specs.declared.infra_types.switches.Way.{Way}
use Rattle.track_graph.specs.declared.stands.Stand.{Stand}
use Rattle.track_graph.specs.Layouts.{Layout, IsStep, IsSwitchAt}
use Rattle.track_graph.specs.Pieces.{AreOn, length_of}
use Rattle.track_graph.specs.Stands.{AreStands, stands_of}
use Rattle.track_graph.specs.Ways.{LeadsTo}
use Rattle.route_walk.specs.declared.places.Place.{Place}
use Rattle.route_walk.specs.declared.places.Point.{Point}
use Rattle.route_walk.specs.declared.places.Spot.{Spot}
use Rattle.route_walk.specs.Places.{IsPlace, IsSpot, ahead_in, at_detector, at_wall, begin_of, come, come_to, gap_behind, stands_first}
use Rattle.route_walk.specs.Ways.{ComesFrom, IsLead, end_of, group_of}
use Rattle.route_walk.proofs.Groups.{got_within}

pub one_ahead : (direction : Direction) (row : List Stand) (gap : ℕ) (stand : Stand) → ahead_in direction row gap ≡ Some stand → gap ≤ length row → (gap_behind direction gap ≤ length row) × ((i : ℕ) × (slice_get row i ≡ Some stand))
one_ahead StartToStop row gap stand e count = (let within = (got_within row gap stand e).0 in (omega arith, (gap, e)))
one_ahead StopToStart row zero stand e count = absurd (cc)
one_ahead StopToStart row (suc gap) stand e count =
    let told : ahead_in StopToStart row (suc gap) ≡ slice_get row (suc gap - 1) = ap (λ (b : Bool). cond b None (slice_get row (suc gap - 1))) (ne_eqb (suc gap) 0 (λ h. omega arith)) in
    let at : suc gap - 1 ≡ gap = omega arith in
    (omega arith, (gap, sym (told ∙ ap (slice_get row) at) ∙ e))

module _ (infra : Infra) (layout : Layout) (spot : Spot) where
  abbrev row : List Stand
  row = stands_of layout.stands spot.track

  pub come_detector : (detector : Stand) → ahead_in spot.direction row spot.gap ≡ Some detector → stands_first spot.direction (length_of infra.tracks spot.track) spot.stop detector.position ≡ true → come infra layout spot ≡ at_detector spot detector
  come_detector detector ahead first =
      ap (come_to spot (length_of infra.tracks spot.track)) ahead
      ∙ ap (λ (b : Bool). cond b (at_detector spot detector) (at_wall spot (length_of infra.tracks spot.track))) first

  pub detector_place : (detector : Stand) → IsSpot infra layout spot → AreStands infra.detectors spot.track row → AreOn infra.tracks spot.track row → ahead_in spot.direction row spot.gap ≡ Some detector → IsPlace infra layout (at_detector spot detector)
  detector_place detector on are within ahead =
      let found = one_ahead spot.direction row spot.gap detector ahead on.count in
      let at = got_within row found.1.0 detector found.1.1 in
      let stands = (are.each detector).0 (found.1.0, at.0, at.1 detector) in
      record {
        on = record {
          track = on.track;
          here = subst (λ (s : Stand). s.position ≤ length_of infra.tracks spot.track) (at.1 detector) (within found.1.0 detector at.0);
          count = found.0;
          wall = on.wall;
        };
        begun = on.here;
        known = (got_within infra.detectors detector.number stands.1.placed stands.1.is).0;
      }

if_some : {X : Type 0} (P : X → Type 0) (o : Option X) → ((x : X) → o ≡ Some x → P x) → IfSome o P
if_some {X} P None h = tt
if_some {X} P (Some x) h = h x refl

end_known : (infra : Infra) (end next : TrackEnd) (group : Group) → IsInfra infra → LeadsTo infra.switches end group next → next.track < length infra.tracks
end_known infra end next group is lead =
    let at = got_within infra.switches lead.number lead.switch lead.is in
    let port = got_within lead.switch.ports lead.other next lead.to in
    let switch = subst (IsSwitch (length infra.tracks)) (at.1 lead.switch) (is.switches lead.number lead.switch at.0) in
    subst (λ (e : TrackEnd). e.track < length infra.tracks) (port.1 next) (switch.joined lead.other next port.0)

pub lead_known : (infra : Infra) (layout : Layout) (ways : List Way) (end : TrackEnd) (found : Option TrackEnd) → layout.infra ≡ infra → IsInfra infra → IsLead layout ways end found → IfSome found (λ next. next.track < length infra.tracks)
lead_known infra layout ways end found same is lead = if_some (λ (next : TrackEnd). next.track < length infra.tracks) found (λ next e.
    let (group, to, _) = (lead next).0 e in
    end_known infra end next group is (subst (λ (i : Infra). LeadsTo i.switches end group next) same to))

module _ (layout : Layout) (ways : List Way) (end : TrackEnd) where
  pub no_lead : ((number : ℕ) → IsSwitchAt layout end None) → IsLead layout ways end None
  no_lead none next = ((λ e. absurd (cc)), (λ it. let lead = it.1 in absurd (let e = (none 0 lead.number).1 (lead.port, (lead.switch, lead.is, lead.from)) in cc)))

  pub lead_is : (switch : ℕ) (group : Group) (found : Option TrackEnd) → IsSwitchAt layout end (Some switch) → group ≡ group_of ways switch → IsStep layout end group found → IsLead layout ways end found
  lead_is switch group found at is step next = (
    (λ e.
        let lead = (step next).0 e in
        let there = (at lead.number).1 (lead.port, (lead.switch, lead.is, lead.from)) in
        let same : switch ≡ lead.number = (cc) in
        (group, lead, is ∙ ap (group_of ways) same)),
    (λ it.
        let lead = it.1 in
        let there = (at lead.number).1 (lead.port, (lead.switch, lead.is, lead.from)) in
        let same : switch ≡ lead.number = (cc) in
        (step next).1 (subst (λ (g : Group). LeadsTo layout.infra.switches end g next) (it.2 ∙ ap (group_of ways) (sym same) ∙ sym is) lead)),
  )

module _ (infra : Infra) (layout : Layout) (ways : List Way) (spot : Spot) where
  pub comes_nowhere : (point : Option Point) (next : Place) → is_some point ≡ false → IsLead layout ways (end_of spot) None → ComesFrom point infra layout ways spot next → ⊥
  comes_nowhere None next e lead (end, to, is) = (let at = (lead end).1 to in absurd (cc))
  comes_nowhere (Some p) next e lead comes = absurd (cc)

  pub comes_across : (point : Option Point) (end : TrackEnd) (next : Place) → is_some point ≡ false → IsLead layout ways (end_of spot) (Some end) → ComesFrom point infra layout ways spot next → next ≡ come infra layout (begin_of infra layout end)
  comes_across None end next e lead (other, to, is) =
      let at = (lead other).1 to in
      let same : end ≡ other = (cc) in
      is ∙ ap (λ (x : TrackEnd). come infra layout (begin_of infra layout x)) (sym same)
  comes_across (Some p) end next e lead comes = absurd (cc)

  pub across_comes : (point : Option Point) (end : TrackEnd) (next : Place) → is_some point ≡ false → IsLead layout ways (end_of spot) (Some end) → next ≡ come infra layout (begin_of infra layout end) → ComesFrom point infra layout ways spot next
  across_comes None end next e lead is = (end, (lead end).0 refl, is)
  across_comes (Some p) end next e lead is = absurd (cc)
