-- Where a graph's tables lead.
use Rattle.std.proofs.Common.{◌≡◌, ℕ, ◌<◌, ◌↔◌, List, length, get_or, map, Option, Some, None, option_map, refl, sym, ap, subst, ◌∙◌, inl}
use Rattle.std.proofs.lemmas.List.{length-map}
use Rattle.std.proofs.lemmas.Option.{slice_get-map, slice_get_read, slice_get_within}
use Rattle.std.specs.Prelude.{slice_get}
use Rattle.rail_types.specs.declared.infra_types.ends.TrackEnd.{TrackEnd}
use Rattle.rail_types.specs.declared.infra_types.switches.Group.{Group}
use Rattle.rail_types.specs.declared.infra_types.switches.Switch.{Switch}
use Rattle.track_graph.specs.declared.joints.Joint.{Joint}
use Rattle.track_graph.specs.declared.ways.Junction.{Junction}
use Rattle.track_graph.specs.Joints.{AreJoints, joint_at, junction_of}
use Rattle.track_graph.specs.Ways.{HasPort, LeadsTo, port_across, ways}

mapped : (o : Option Switch) (junction : Junction) → option_map junction_of o ≡ Some junction → (switch : Switch) × (o ≡ Some switch) × (junction_of switch ≡ junction)
mapped None junction e = absurd (cc)
mapped (Some switch) junction e = (switch, refl, (cc))

module _ (switches : List Switch) (joints : List (Option Joint)) (are : AreJoints switches (length switches) 0 joints) (end : TrackEnd) where
  port_told : (n p : ℕ) → HasPort switches n p end → joint_at joints end ≡ Some (record { switch = n; port = p })
  port_told n p has = are.there n p end (inl (slice_get_within switches n has.0 has.1)) has

  pub no_switch : joint_at joints end ≡ None → (n : ℕ) → ◌≡◌ {A = Option ℕ} None (Some n) ↔ ((p : ℕ) × HasPort switches n p end)
  no_switch none n = ((λ e. absurd (cc)), (λ t. absurd (let told = port_told n t.0 t.1 in cc)))

  pub switch_told : (joint : Joint) → joint_at joints end ≡ Some joint → (n : ℕ) → ◌≡◌ {A = Option ℕ} (Some joint.switch) (Some n) ↔ ((p : ℕ) × HasPort switches n p end)
  switch_told joint here n = (
    (λ e. let same : joint.switch ≡ n = cc in (joint.port, subst (λ (x : ℕ). HasPort switches x joint.port end) same (are.from end joint here).0)),
    (λ t.
        let told = port_told n t.0 t.1 in
        let same : ◌≡◌ {A = Joint} joint (record { switch = n; port = t.0 }) = cc in
        ap (λ (j : Joint). Some j.switch) same),
  )

  pub joint_within : (joint : Joint) → joint_at joints end ≡ Some joint → joint.switch < length switches
  joint_within joint here = let it = (are.from end joint here).0 in slice_get_within switches joint.switch it.0 it.1

  pub no_port : (group : Group) → joint_at joints end ≡ None → (next : TrackEnd) → ◌≡◌ {A = Option TrackEnd} None (Some next) ↔ LeadsTo switches end group next
  no_port group none next = ((λ e. absurd (cc)), (λ t. absurd (let told = port_told t.number t.port (t.switch, t.is, t.from) in cc)))

  module _ (junctions : List Junction) (same : junctions ≡ map junction_of switches) (group : Group) (joint : Joint) (here : joint_at joints end ≡ Some joint) (junction : Junction) (read : junction ≡ get_or junctions joint.switch junction) where
    switch_here : (switch : Switch) × (slice_get switches joint.switch ≡ Some switch) × (junction_of switch ≡ junction)
    switch_here =
        let long = ap length same in
        let within : joint.switch < length junctions = (let it = joint_within joint here in subst (λ (js : List Junction). joint.switch < length js) (sym same) (simp length-map it)) in
        let at = slice_get_read junctions (length junctions) joint.switch junction refl within read in
        mapped (slice_get switches joint.switch) junction (sym (slice_get-map junction_of switches joint.switch) ∙ (ap (λ (js : List Junction). slice_get js joint.switch) (sym same) ∙ at))

    -- a way from the end begins at the joint
    told_by : (next : TrackEnd) → LeadsTo switches end group next → (other : ℕ) × (slice_get junction.ports other ≡ Some next) × (port_across (ways junction.kind group) joint.port ≡ Some other)
    told_by next t =
        let told = port_told t.number t.port (t.switch, t.is, t.from) in
        let is_joint : ◌≡◌ {A = Joint} (record { switch = t.number; port = t.port }) joint = cc in
        let number = ap (λ (j : Joint). j.switch) is_joint in
        let it = switch_here in
        let at = subst (λ (n : ℕ). slice_get switches n ≡ Some t.switch) number t.is in
        let found = it.1 in
        let one : t.switch ≡ it.0 = cc in
        let as_junction : junction_of t.switch ≡ junction = ap junction_of one ∙ it.2 in (
          t.other,
          ap (λ (j : Junction). slice_get j.ports t.other) (sym as_junction) ∙ t.to,
          ap (λ (j : Junction). port_across (ways j.kind group) joint.port) (sym as_junction) ∙ (ap (λ (j : Joint). port_across (ways t.switch.kind group) j.port) (sym is_joint) ∙ t.across),
        )

    pub no_way : port_across (ways junction.kind group) joint.port ≡ None → (next : TrackEnd) → ◌≡◌ {A = Option TrackEnd} None (Some next) ↔ LeadsTo switches end group next
    no_way none next = ((λ e. absurd (cc)), (λ t. absurd (let it = told_by next t in let told = it.2 in cc)))

    pub way_leads : (other : ℕ) → port_across (ways junction.kind group) joint.port ≡ Some other → (next : TrackEnd) → (slice_get junction.ports other ≡ Some next) ↔ LeadsTo switches end group next
    way_leads other some next = (
      (λ e.
          let it = switch_here in
          let from = (are.from end joint here).0 in
          let also = from.1 in
          let found = it.1 in
          let one : from.0 ≡ it.0 = cc in
          record {
            number = joint.switch;
            switch = it.0;
            port = joint.port;
            other = other;
            is = it.1;
            from = subst (λ (s : Switch). slice_get s.ports joint.port ≡ Some end) one from.2;
            to = ap (λ (j : Junction). slice_get j.ports other) it.2 ∙ e;
            across = ap (λ (j : Junction). port_across (ways j.kind group) joint.port) it.2 ∙ some;
          }),
      (λ t.
          let it = told_by next t in
          let told = it.2 in
          let same_other : it.0 ≡ other = cc in
          subst (λ (n : ℕ). slice_get junction.ports n ≡ Some next) same_other it.1),
    )
