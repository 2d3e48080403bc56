-- Track ends take their ports, one port after the other.
use Rattle.std.proofs.Common.{◌≡◌, ℕ, ◌+◌, ◌<◌, ◌≤◌, ◌⊎◌, List, length, get_or, set, Bool, true, false, Option, Some, None, refl, sym, ap, subst, ◌∙◌, inl, inr, arith}
use Rattle.std.proofs.lemmas.Bool.{cases_eq, cases_lt}
use Rattle.std.proofs.lemmas.List.{get_or-set_same, get_or-set_other, get_or_past}
use Rattle.std.proofs.lemmas.Option.{get_or_from_slice_get, slice_get_within, slice_get-get_or, slice_get_read}
use Rattle.std.specs.List.{All}
use Rattle.std.specs.Prelude.{slice_get}
use Rattle.rail_types.specs.Infras.{IsSwitch}
use Rattle.rail_types.specs.declared.infra_types.ends.End.{End}
use Rattle.rail_types.specs.declared.infra_types.ends.End.TheVariants as ends
use Rattle.rail_types.specs.declared.infra_types.ends.TrackEnd.{TrackEnd}
use Rattle.rail_types.specs.declared.infra_types.switches.Switch.{Switch}
use Rattle.track_graph.specs.declared.joints.Joint.{Joint}
use Rattle.track_graph.specs.Faults.{AreOnce, AreOnceBefore, IsEarlier, IsFirstTwice}
use Rattle.track_graph.specs.Joints.{AreJoints, Took, heading, heading_of, joint_at}
use Rattle.track_graph.specs.Ways.{HasPort}

heading_same : (t u : ℕ) (a b : End) → heading t a ≡ heading u b → (t ≡ u) × (a ≡ b)
heading_same t u ends.Begin ends.Begin h = (omega arith, refl)
heading_same t u ends.Begin ends.End h = absurd (omega arith)
heading_same t u ends.End ends.Begin h = absurd (omega arith)
heading_same t u ends.End ends.End h = (omega arith, refl)

pub end_same : (one other : TrackEnd) → heading_of one ≡ heading_of other → one ≡ other
end_same one other h =
    let it = heading_same one.track other.track one.end other.end h in
    ap (λ (t : ℕ). record { track = t; end = one.end }) it.0 ∙ ap (λ (e : End). record { track = other.track; end = e }) it.1

never_itself : (n p : ℕ) → IsEarlier n p n p → ⊥
never_itself n p (inl less) = omega arith
never_itself n p (inr t) = (let less = t.1 in omega arith)

earlier_on : (a b c d e f : ℕ) → IsEarlier a b c d → IsEarlier c d e f → IsEarlier a b e f
earlier_on a b c d e f (inl h) (inl k) = inl (omega arith)
earlier_on a b c d e f (inl h) (inr k) = inl (let same = k.0 in omega arith)
earlier_on a b c d e f (inr h) (inl k) = inl (let same = h.0 in omega arith)
earlier_on a b c d e f (inr h) (inr k) = inr (h.0 ∙ k.0, (let less = h.1 in let more = k.1 in omega arith))

earlier_step : (n p s i : ℕ) → IsEarlier n p s i → IsEarlier n p s (i + 1)
earlier_step n p s i (inl h) = inl h
earlier_step n p s i (inr h) = inr (h.0, (let less = h.1 in omega arith))

earlier_over : (n p s i : ℕ) → IsEarlier n p s i → IsEarlier n p (s + 1) 0
earlier_over n p s i (inl h) = inl (omega arith)
earlier_over n p s i (inr h) = inl (let same = h.0 in omega arith)

earlier_last : (n p s i : ℕ) → IsEarlier n p s (i + 1) → IsEarlier n p s i ⊎ ((n ≡ s) × (p ≡ i))
earlier_last n p s i (inl h) = inl (inl h)
earlier_last n p s i (inr h) = elim (cases_eq p i) [
  | inl same ↦ inr (h.0, same)
  | inr differ ↦ inl (inr (h.0, (let less = h.1 in omega arith)))
]

one_end : (switches : List Switch) (n p : ℕ) (e f : TrackEnd) → HasPort switches n p e → HasPort switches n p f → e ≡ f
one_end switches n p e f (s, is, at) (t, also, there) =
    let same : s ≡ t = cc in
    let read : slice_get s.ports p ≡ slice_get t.ports p = ap (λ (x : Switch). slice_get x.ports p) same in
    cc

pub joints_first : (switches : List Switch) (joints : List (Option Joint)) → All (λ joint. joint ≡ None) joints → AreJoints switches 0 0 joints
joints_first switches joints none = record {
  there = λ n p end early has. absurd (elim early [ inl h ↦ omega arith | inr t ↦ (let less = t.1 in omega arith) ]);
  from = λ end joint h. absurd (elim (cases_lt (heading_of end) (length joints)) [
    | inl within ↦ (let it = none (heading_of end) None within in cc)
    | inr past ↦ (let it = get_or_past joints (heading_of end) None past in cc)
  ]);
}

module _ (switches : List Switch) (s i : ℕ) (joints : List (Option Joint)) (are : AreJoints switches s i joints) where
  pub joints_next : (end : TrackEnd) → HasPort switches s i end → joint_at joints end ≡ None → heading_of end < length joints → AreJoints switches s (i + 1) (set joints (heading_of end) (Some (record { switch = s; port = i })))
  joints_next end here none within =
      let new : Joint = record { switch = s; port = i } in
      let there_now : joint_at (set joints (heading_of end) (Some new)) end ≡ Some new = get_or-set_same joints (heading_of end) (Some new) None within in
      let other : (e : TrackEnd) → (heading_of e ≡ heading_of end → ⊥) → joint_at (set joints (heading_of end) (Some new)) e ≡ joint_at joints e = λ e differ. get_or-set_other joints (heading_of end) (heading_of e) (Some new) None differ in
      record {
        there = λ n p e early has. elim (earlier_last n p s i early) [
          | inl before ↦
              let had = are.there n p e before has in
              other e (λ same. let at_end = subst (λ (x : TrackEnd). joint_at joints x ≡ Some (record { switch = n; port = p })) (end_same e end same) had in cc) ∙ had
          | inr t ↦
              let has_too = subst (λ (x : ℕ). HasPort switches s x e) t.1 (subst (λ (x : ℕ). HasPort switches x p e) t.0 has) in
              let same = one_end switches s i end e here has_too in
              let told : joint_at (set joints (heading_of end) (Some new)) e ≡ Some new = subst (λ (x : TrackEnd). joint_at (set joints (heading_of end) (Some new)) x ≡ Some new) same there_now in
              told ∙ ap (λ (x : ℕ). Some (record { switch = x; port = i })) (sym t.0) ∙ ap (λ (x : ℕ). Some (record { switch = n; port = x })) (sym t.1)
        ];
        from = λ e joint h. elim (cases_eq (heading_of e) (heading_of end)) [
          | inl same ↦
              let is_end = end_same e end same in
              let at_end = subst (λ (x : TrackEnd). joint_at (set joints (heading_of end) (Some new)) x ≡ Some joint) is_end h in
              let is_new : new ≡ joint = cc in (
                subst (λ (j : Joint). HasPort switches j.switch j.port e) is_new (subst (HasPort switches s i) (sym is_end) here),
                subst (λ (j : Joint). IsEarlier j.switch j.port s (i + 1)) is_new (inr (refl, omega arith)),
              )
          | inr differ ↦
              let it = are.from e joint (sym (other e differ) ∙ h) in
              (it.0, earlier_step joint.switch joint.port s i it.1)
        ];
      }

  pub joints_over : (switch : Switch) → slice_get switches s ≡ Some switch → length switch.ports ≤ i → AreJoints switches (s + 1) 0 joints
  joints_over switch is long = record {
    there = λ n p end early has. elim early [
      | inr t ↦ absurd (let less = t.1 in omega arith)
      | inl less ↦ elim (cases_eq n s) [
        | inr differ ↦ are.there n p end (inl (omega arith)) has
        | inl same ↦
            let has_too = subst (λ (x : ℕ). HasPort switches x p end) same has in
            let also = has_too.1 in
            let one : has_too.0 ≡ switch = cc in
            let at = slice_get_within has_too.0.ports p end has_too.2 in
            let size = ap (λ (x : Switch). length x.ports) one in
            are.there n p end (inr (same, omega arith)) has
      ]
    ];
    from = λ end joint h. let it = are.from end joint h in (it.0, earlier_over joint.switch joint.port s i it.1);
  }

  once_before : AreOnceBefore switches s i
  once_before n p end early twice =
      let other = twice.1 in
      let one = are.there n p end early twice.0 in
      let two = are.there other.0 other.1 end (earlier_on other.0 other.1 n p s i other.2 early) other.3 in
      let same : ◌≡◌ {A = Joint} (record { switch = other.0; port = other.1 }) (record { switch = n; port = p }) = cc in
      never_itself n p (subst (λ (j : Joint). IsEarlier j.switch j.port n p) same other.2)

  pub joints_twice : (end : TrackEnd) (other : Joint) → HasPort switches s i end → joint_at joints end ≡ Some other → IsFirstTwice switches end
  joints_twice end other here there =
      let it = are.from end other there in
      (s, i, (here, (other.switch, other.port, it.1, it.0)), once_before)

pub joints_once : (switches : List Switch) (joints : List (Option Joint)) → AreJoints switches (length switches) 0 joints → AreOnce switches
joints_once switches joints are n p end twice =
    let within = slice_get_within switches n twice.0.0 twice.0.1 in
    once_before switches (length switches) 0 joints are n p end (inl within) twice

pub switch_is : (switches : List Switch) (s : ℕ) (switch : Switch) → s < length switches → switch ≡ get_or switches s switch → slice_get switches s ≡ Some switch
switch_is switches s switch within read = slice_get_read switches (length switches) s switch refl within read

module _ (switches : List Switch) (s i : ℕ) (switch : Switch) (ports : List TrackEnd) (within : s < length switches) (read : switch ≡ get_or switches s switch) (same : ports ≡ switch.ports) (lt : i < length ports) where
  port_is : (d : TrackEnd) → slice_get switch.ports i ≡ Some (get_or ports i d)
  port_is d = subst (λ (ps : List TrackEnd). slice_get ps i ≡ Some (get_or ports i d)) same (slice_get-get_or ports i d lt)

  port_within : (n : ℕ) (d : TrackEnd) → All (λ (one : Switch). All (λ (end : TrackEnd). heading_of end < n) one.ports) switches → heading_of (get_or ports i d) < n
  port_within n d all =
      let own : All (λ (end : TrackEnd). heading_of end < n) switch.ports = subst (λ (x : Switch). All (λ (end : TrackEnd). heading_of end < n) x.ports) (sym read) (all s switch within) in
      let here : All (λ (end : TrackEnd). heading_of end < n) ports = subst (λ (ps : List TrackEnd). All (λ (end : TrackEnd). heading_of end < n) ps) (sym same) own in
      here i d lt

  pub took_twice : (joints new : List (Option Joint)) (d : TrackEnd) (took : Bool) → AreJoints switches s i joints → took ≡ false → Took joints new (get_or ports i d) (record { switch = s; port = i }) took → IsFirstTwice switches (get_or ports i d)
  took_twice joints new d true are e t = absurd (cc)
  took_twice joints new d false are e t = joints_twice switches s i joints are (get_or ports i d) t.0 (switch, switch_is switches s switch within read, port_is d) t.1

  pub took_next : (joints new : List (Option Joint)) (n : ℕ) (d : TrackEnd) (took : Bool) → AreJoints switches s i joints → length joints ≡ n → All (λ (one : Switch). All (λ (end : TrackEnd). heading_of end < n) one.ports) switches → took ≡ true → Took joints new (get_or ports i d) (record { switch = s; port = i }) took → AreJoints switches s (i + 1) new
  took_next joints new n d false are long all e t = absurd (cc)
  took_next joints new n d true are long all e t =
      let bound = port_within n d all in
      subst (AreJoints switches s (i + 1)) (sym t.1) (joints_next switches s i joints are (get_or ports i d) (switch, switch_is switches s switch within read, port_is d) t.0 (omega arith))

pub twice_within : (n : ℕ) (switches : List Switch) (end : TrackEnd) → All (IsSwitch n) switches → IsFirstTwice switches end → end.track < n
twice_within n switches end all twice =
    let port = twice.2.0 in
    let at = slice_get_within switches twice.0 port.0 port.1 in
    let read = get_or_from_slice_get switches twice.0 port.0 port.0 port.1 in
    let sound : IsSwitch n port.0 = subst (IsSwitch n) read (all twice.0 port.0 at) in
    let inside = slice_get_within port.0.ports twice.1 end port.2 in
    let found = get_or_from_slice_get port.0.ports twice.1 end end port.2 in
    subst (λ (e : TrackEnd). e.track < n) found (sound.joined twice.1 end inside)
