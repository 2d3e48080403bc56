-- A route's ways lead from an end to one end at most, and to an end from one at most.
use Rattle.std.proofs.Common.{◌≡◌, ◌∙◌, ℕ, ◌⊎◌, Bool, true, false, cond, List, [], ◌∷◌, nat_eq, Option, Some, None, refl, sym, ap, inl, inr}
use Rattle.std.proofs.lemmas.Bool.{cases_order, eqb-true}
use Rattle.std.specs.Prelude.{slice_get}
use Rattle.rail_types.specs.declared.infra_types.ends.TrackEnd.{TrackEnd}
use Rattle.rail_types.specs.declared.infra_types.switches.Group.{Group}
use Rattle.rail_types.specs.declared.infra_types.switches.Group.TheVariants.{AB1, AB2, A1B1, A1B2, A2B1, A2B2, Other}
use Rattle.rail_types.specs.declared.infra_types.switches.Switch.{Switch}
use Rattle.rail_types.specs.declared.infra_types.switches.SwitchKind.{SwitchKind}
use Rattle.rail_types.specs.declared.infra_types.switches.SwitchKind.TheVariants.{Point, Link, Crossing, DoubleSlip}
use Rattle.rail_types.specs.declared.infra_types.switches.Way.{Way}
use Rattle.track_graph.specs.Faults.{AreOnce}
use Rattle.track_graph.specs.Ways.{HasPort, port_across, ways}
use Rattle.route_walk.specs.Ways.{Leads, group_of}

by_pair : (p a b o : ℕ) (t u : Bool) (rest : Option ℕ) → nat_eq p a ≡ t → nat_eq p b ≡ u → ◌≡◌ {A = Option ℕ} (cond t (Some b) (cond u (Some a) rest)) (Some o) → ((p ≡ a) × (o ≡ b)) ⊎ (((p ≡ b) × (o ≡ a)) ⊎ (rest ≡ Some o))
by_pair p a b o true u rest h k e = inl (eqb-true p a h, (cc))
by_pair p a b o false true rest h k e = inr (inl (eqb-true p b k, (cc)))
by_pair p a b o false false rest h k e = inr (inr e)

-- the two ports stand in the first pair, or in another
in_pair : (p a b o : ℕ) (rest : List (ℕ × ℕ)) → port_across ((a, b) ∷ rest) p ≡ Some o → ((p ≡ a) × (o ≡ b)) ⊎ (((p ≡ b) × (o ≡ a)) ⊎ (port_across rest p ≡ Some o))
in_pair p a b o rest e = by_pair p a b o (nat_eq p a) (nat_eq p b) (port_across rest p) refl refl e

back_by : (pairs : List (ℕ × ℕ)) (p o a b : ℕ) → p ≡ a → o ≡ b → port_across pairs b ≡ Some a → port_across pairs o ≡ Some p
back_by pairs p o a b h k e = ap (port_across pairs) k ∙ e ∙ ap (λ (n : ℕ). Some n) (sym h)

one_back : (p a b o : ℕ) → port_across ((a, b) ∷ []) b ≡ Some a → port_across ((a, b) ∷ []) a ≡ Some b → port_across ((a, b) ∷ []) p ≡ Some o → port_across ((a, b) ∷ []) o ≡ Some p
one_back p a b o there here e = elim (in_pair p a b o [] e) [
  | inl x ↦ back_by ((a, b) ∷ []) p o a b x.0 x.1 there
  | inr r ↦ elim r [
    | inl x ↦ back_by ((a, b) ∷ []) p o b a x.0 x.1 here
    | inr none ↦ absurd (cc)
  ]
]

abbrev crossed : List (ℕ × ℕ)
crossed = (0, 1) ∷ (2, 3) ∷ []

crossed_back : (p o : ℕ) → port_across crossed p ≡ Some o → port_across crossed o ≡ Some p
crossed_back p o e = elim (in_pair p 0 1 o ((2, 3) ∷ []) e) [
  | inl x ↦ back_by crossed p o 0 1 x.0 x.1 refl
  | inr r ↦ elim r [
    | inl x ↦ back_by crossed p o 1 0 x.0 x.1 refl
    | inr rest ↦ elim (in_pair p 2 3 o [] rest) [
      | inl x ↦ back_by crossed p o 2 3 x.0 x.1 refl
      | inr s ↦ elim s [
        | inl x ↦ back_by crossed p o 3 2 x.0 x.1 refl
        | inr none ↦ absurd (cc)
      ]
    ]
  ]
]

none_back : (p o : ℕ) → port_across [] p ≡ Some o → port_across [] o ≡ Some p
none_back p o e = absurd (cc)

-- a way leads back as it leads on
leads_back : (kind : SwitchKind) (group : Group) (p o : ℕ) → port_across (ways kind group) p ≡ Some o → port_across (ways kind group) o ≡ Some p
leads_back Point AB1 p o e = one_back p 0 1 o refl refl e
leads_back Point AB2 p o e = one_back p 0 2 o refl refl e
leads_back Point A1B1 p o e = none_back p o e
leads_back Point A1B2 p o e = none_back p o e
leads_back Point A2B1 p o e = none_back p o e
leads_back Point A2B2 p o e = none_back p o e
leads_back Point Other p o e = none_back p o e
leads_back Link group p o e = one_back p 0 1 o refl refl e
leads_back Crossing group p o e = crossed_back p o e
leads_back DoubleSlip AB1 p o e = none_back p o e
leads_back DoubleSlip AB2 p o e = none_back p o e
leads_back DoubleSlip A1B1 p o e = one_back p 0 2 o refl refl e
leads_back DoubleSlip A1B2 p o e = one_back p 0 3 o refl refl e
leads_back DoubleSlip A2B1 p o e = one_back p 1 2 o refl refl e
leads_back DoubleSlip A2B2 p o e = one_back p 1 3 o refl refl e
leads_back DoubleSlip Other p o e = none_back p o e

pub got_same : {X : Type 0} (xs ys : List X) (i j : ℕ) (x y : X) → xs ≡ ys → i ≡ j → slice_get xs i ≡ Some x → slice_get ys j ≡ Some y → x ≡ y
got_same {X} xs ys i j x y same at e h = (cc)

told_same : (f : SwitchKind → Group → ℕ → Option ℕ) (kind kind' : SwitchKind) (group group' : Group) (p p' o o' : ℕ) → kind ≡ kind' → group ≡ group' → p ≡ p' → f kind group p ≡ Some o → f kind' group' p' ≡ Some o' → o ≡ o'
told_same f kind kind' group group' p p' o o' k g h e e' = (cc)

-- an end belongs to one port
one_port : (switches : List Switch) (n p n' p' : ℕ) (end : TrackEnd) → AreOnce switches → HasPort switches n p end → HasPort switches n' p' end → (n ≡ n') × (p ≡ p')
one_port switches n p n' p' end once h k = elim (cases_order n n') [
  | inl same ↦ elim (cases_order p p') [
    | inl alike ↦ (same, alike)
    | inr apart ↦ elim apart [
      | inl less ↦ absurd (once n' p' end (k, (n, p, inr (same, less), h)))
      | inr more ↦ absurd (once n p end (h, (n', p', inr (sym same, more), k)))
    ]
  ]
  | inr apart ↦ elim apart [
    | inl less ↦ absurd (once n' p' end (k, (n, p, inl less, h)))
    | inr more ↦ absurd (once n p end (h, (n', p', inl more, k)))
  ]
]

module _ (switches : List Switch) (own : List Way) (once : AreOnce switches) where
  pub leads_one : (end one other : TrackEnd) → Leads switches own end one → Leads switches own end other → one ≡ other
  leads_one end one other (group, lead, is) (group', lead', is') =
      let at = one_port switches lead.number lead.port lead'.number lead'.port end once (lead.switch, lead.is, lead.from) (lead'.switch, lead'.is, lead'.from) in
      let switch = got_same switches switches lead.number lead'.number lead.switch lead'.switch refl at.0 lead.is lead'.is in
      let same = is ∙ ap (group_of own) at.0 ∙ sym is' in
      let across = told_same (λ kind g p. port_across (ways kind g) p) lead.switch.kind lead'.switch.kind group group' lead.port lead'.port lead.other lead'.other (ap (λ (s : Switch). s.kind) switch) same at.1 lead.across lead'.across in
      got_same lead.switch.ports lead'.switch.ports lead.other lead'.other one other (ap (λ (s : Switch). s.ports) switch) across lead.to lead'.to

  pub leads_from_one : (one other end : TrackEnd) → Leads switches own one end → Leads switches own other end → one ≡ other
  leads_from_one one other end (group, lead, is) (group', lead', is') =
      let at = one_port switches lead.number lead.other lead'.number lead'.other end once (lead.switch, lead.is, lead.to) (lead'.switch, lead'.is, lead'.to) in
      let switch = got_same switches switches lead.number lead'.number lead.switch lead'.switch refl at.0 lead.is lead'.is in
      let same = is ∙ ap (group_of own) at.0 ∙ sym is' in
      let across = told_same (λ kind g p. port_across (ways kind g) p) lead.switch.kind lead'.switch.kind group group' lead.other lead'.other lead.port lead'.port (ap (λ (s : Switch). s.kind) switch) same at.1 (leads_back lead.switch.kind group lead.port lead.other lead.across) (leads_back lead'.switch.kind group' lead'.port lead'.other lead'.across) in
      got_same lead.switch.ports lead'.switch.ports lead.port lead'.port one other (ap (λ (s : Switch). s.ports) switch) across lead.from lead'.from
