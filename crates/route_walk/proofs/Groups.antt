-- The first element that passes a test, by its place.
use Rattle.std.proofs.Common.{◌≡◌, ◌∙◌, ℕ, zero, suc, ◌<◌, ◌≤◌, Bool, true, false, cond, List, [], ◌∷◌, length, get_or, find, nat_eq, Some, None, refl, sym, ap, inl, inr, arith}
use Rattle.std.proofs.lemmas.Bool.{cases_order, eq-eqb, ne_eqb}
use Rattle.std.specs.Prelude.{slice_get}
use Rattle.std.specs.List.{AllPairs, AllWithin}
use Rattle.rail_types.specs.declared.infra_types.switches.Group.TheVariants.{Other}
use Rattle.rail_types.specs.declared.infra_types.switches.Way.{Way}
use Rattle.route_walk.specs.Ways.{group_in, group_of}

pub got_within : {X : Type 0} (xs : List X) (i : ℕ) (x : X) → slice_get xs i ≡ Some x → (i < length xs) × ((d : X) → get_or xs i d ≡ x)
got_within {X} [] i x e = absurd (cc)
got_within {X} (y ∷ ys) zero x e = (omega arith, λ d. (cc))
got_within {X} (y ∷ ys) (suc i) x e = let it = got_within ys i x e in ((let below = it.0 in omega arith), it.1)

pub got_none : {X : Type 0} (xs : List X) (i : ℕ) → slice_get xs i ≡ None → length xs ≤ i
got_none {X} [] i e = omega arith
got_none {X} (y ∷ ys) zero e = absurd (cc)
got_none {X} (y ∷ ys) (suc i) e = (let rest = got_none ys i e in omega arith)

found_at : {X : Type 0} (p : X → Bool) (xs : List X) (i : ℕ) (x : X) → slice_get xs i ≡ Some x → ((k : ℕ) (d : X) → k < i → p (get_or xs k d) ≡ false) → p x ≡ true → find p xs ≡ Some x
found_at {X} p [] i x got before here = absurd (cc)
found_at {X} p (y ∷ ys) zero x got before here =
    let same : y ≡ x = (cc) in
    ap (λ (b : Bool). cond b (Some y) (find p ys)) (ap p same ∙ here) ∙ ap (λ (z : X). Some z) same
found_at {X} p (y ∷ ys) (suc i) x got before here =
    ap (λ (b : Bool). cond b (Some y) (find p ys)) (before 0 y (omega arith)) ∙ found_at p ys i x got (λ k d h. before (suc k) d (omega arith)) here

missed : {X : Type 0} (p : X → Bool) (xs : List X) → ((k : ℕ) (d : X) → k < length xs → p (get_or xs k d) ≡ false) → find p xs ≡ None
missed {X} p [] all = refl
missed {X} p (y ∷ ys) all =
    ap (λ (b : Bool). cond b (Some y) (find p ys)) (all 0 y (omega arith)) ∙ missed p ys (λ k d h. all (suc k) d (omega arith))

module _ (ways : List Way) (switch : ℕ) (at : ℕ) (before : AllWithin (λ way. way.switch < switch) ways 0 at) where
  other_before : (k : ℕ) (d : Way) → k < at → nat_eq (get_or ways k d).switch switch ≡ false
  other_before k d h = ne_eqb (get_or ways k d).switch switch (λ e. (let less = before k d (omega arith) h in omega arith))

  pub group_there : (way : Way) → slice_get ways at ≡ Some way → way.switch ≡ switch → way.group ≡ group_of ways switch
  group_there way got same = sym (ap group_in (found_at (λ (one : Way). nat_eq one.switch switch) ways at way got other_before (eq-eqb way.switch switch same)))

  pub group_none : slice_get ways at ≡ None → Other ≡ group_of ways switch
  group_none none = sym (ap group_in (missed (λ (one : Way). nat_eq one.switch switch) ways (λ k d h. other_before k d (let past = got_none ways at none in omega arith))))

  pub group_past : (way : Way) → slice_get ways at ≡ Some way → AllPairs (λ one later. one.switch < later.switch) ways → AllWithin (λ one. switch ≤ one.switch) ways at (length ways) → (way.switch ≡ switch → ⊥) → Other ≡ group_of ways switch
  group_past way got ascend after differ =
      let within = (got_within ways at way got).0 in
      let here = (got_within ways at way got).1 in
      sym (ap group_in (missed (λ (one : Way). nat_eq one.switch switch) ways (λ k d h. elim (cases_order k at) [
        | inl same ↦ (let e : get_or ways k d ≡ way = ap (λ (n : ℕ). get_or ways n d) same ∙ here d in ne_eqb (get_or ways k d).switch switch (λ s. differ (sym (ap (λ (w : Way). w.switch) e) ∙ s)))
        | inr apart ↦ elim apart [
          | inl less ↦ other_before k d less
          | inr more ↦
              let up : (get_or ways at d).switch < (get_or ways k d).switch = ascend at k d more h in
              let low : switch ≤ (get_or ways at d).switch = after at d (omega arith) within in
              ne_eqb (get_or ways k d).switch switch (λ s. omega arith)
        ]
      ])))
