-- What the notes of clients name, before and after.
use Rattle.std.proofs.Common.{◌≡◌, ◌≢◌, ◌⊎◌, ℕ, zero, suc, ◌<◌, List, [], ◌∷◌, ◌++◌, length, map, get_or, slice_get, Some, Contains, inl, inr, refl, ap, sym, subst, ◌∙◌, arith}
use Rattle.std.proofs.lemmas.Bool.{cases_eq}
use Rattle.std.proofs.lemmas.List.Elements.{Contains-append_cases, Contains-append_left, Contains-append_right}
use Rattle.std.proofs.lemmas.Option.{slice_get-get_or}
use Rattle.plan_core.specs.Parties.{changed_at, losing, Party, positions}
use Rattle.plan_core.proofs.Lists.{changed_cases, changed_same, changed_other, mapped, mapping}
use Rattle.plan_core.proofs.Noted.{marked_names, names_marked}

-- the notes of the client of this number name this position
abbrev pub NamesIn : List Party → ℕ → ℕ → Type 0
NamesIn parties client at =
    (party : Party) × (slice_get parties client ≡ Some party) × Contains (positions party.log) at

one_of : (y x : ℕ) → Contains (y ∷ []) x → x ≡ y
one_of y x (zero, within, here) = sym here
one_of y x (suc k, within, here) = absurd (omega (arith, within))

-- clients of whom one has changed, but for what its notes name
module _ (k : ℕ) (f : Party → Party) (parties : List Party) (same : (party : Party) → positions (f party).log ≡ positions party.log) where
  pub changed_to : (client at : ℕ) → NamesIn parties client at → NamesIn (changed_at k f parties) client at
  changed_to client at named = elim (cases_eq client k) [
    | inl here ↦
        let there : slice_get parties k ≡ Some named.0 = subst (λ j. slice_get parties j ≡ Some named.0) here named.1 in
        (f named.0, subst (λ j. slice_get (changed_at k f parties) j ≡ Some (f named.0)) (sym here) (changed_same k f parties named.0 there), subst (λ all. Contains all at) (sym (same named.0)) named.2)
    | inr other ↦ (named.0, changed_other k f parties client other ∙ named.1, named.2)
  ]

  pub changed_from : (client at : ℕ) → NamesIn (changed_at k f parties) client at → NamesIn parties client at
  changed_from client at named = elim (changed_cases k f parties client named.0 named.1) [
    | inl here ↦ (here.0, subst (λ j. slice_get parties j ≡ Some here.0) (sym here.1) here.2, subst (λ all. Contains all at) (ap (λ (it : Party). positions it.log) here.3 ∙ same here.0) named.2)
    | inr other ↦ (named.0, other.1, named.2)
  ]

-- clients of whom one has named one more position
module _ (k : ℕ) (f : Party → Party) (parties : List Party) (front : ℕ) (more : (party : Party) → positions (f party).log ≡ positions party.log ++ front ∷ []) where
  pub noted_to : (client at : ℕ) → NamesIn parties client at → NamesIn (changed_at k f parties) client at
  noted_to client at named = elim (cases_eq client k) [
    | inl here ↦
        let there : slice_get parties k ≡ Some named.0 = subst (λ j. slice_get parties j ≡ Some named.0) here named.1 in
        (f named.0, subst (λ j. slice_get (changed_at k f parties) j ≡ Some (f named.0)) (sym here) (changed_same k f parties named.0 there), subst (λ all. Contains all at) (sym (more named.0)) (Contains-append_left (positions named.0.log) (front ∷ []) at named.2))
    | inr other ↦ (named.0, changed_other k f parties client other ∙ named.1, named.2)
  ]

  pub noted_new : (party : Party) → slice_get parties k ≡ Some party → NamesIn (changed_at k f parties) k front
  noted_new party here = (f party, changed_same k f parties party here, subst (λ all. Contains all front) (sym (more party)) (Contains-append_right (positions party.log) (front ∷ []) front (zero, omega arith, refl)))

  pub noted_from : (client at : ℕ) → NamesIn (changed_at k f parties) client at → NamesIn parties client at ⊎ ((client ≡ k) × (at ≡ front))
  noted_from client at named = elim (changed_cases k f parties client named.0 named.1) [
    | inl here ↦ elim (Contains-append_cases (positions here.0.log) (front ∷ []) at (subst (λ all. Contains all at) (ap (λ (it : Party). positions it.log) here.3 ∙ more here.0) named.2)) [
      | inl old ↦ inl (here.0, subst (λ j. slice_get parties j ≡ Some here.0) (sym here.1) here.2, old)
      | inr new ↦ inr (here.1, one_of front at new)
    ]
    | inr other ↦ inl (named.0, other.1, named.2)
  ]

-- clients of whom each has changed, but for what its notes name
module _ (f : Party → Party) (parties : List Party) (same : (party : Party) → positions (f party).log ≡ positions party.log) where
  pub all_to : (client at : ℕ) → NamesIn parties client at → NamesIn (map f parties) client at
  all_to client at named = (f named.0, mapping f parties client named.0 named.1, subst (λ all. Contains all at) (sym (same named.0)) named.2)

  pub all_from : (client at : ℕ) → NamesIn (map f parties) client at → NamesIn parties client at
  all_from client at named =
      let one = mapped f parties client named.0 named.1 in
      (one.0, one.1, subst (λ all. Contains all at) (ap (λ (it : Party). positions it.log) one.2 ∙ same one.0) named.2)

-- clients who have lost a position
module _ (front : ℕ) (parties : List Party) where
  pub lost_to : (client at : ℕ) → NamesIn parties client at → at ≢ front → NamesIn (map (losing front) parties) client at
  lost_to client at named differ = (losing front named.0, mapping (losing front) parties client named.0 named.1, names_marked front named.0.log at named.2 differ)

  pub lost_from : (client at : ℕ) → NamesIn (map (losing front) parties) client at → NamesIn parties client at × (at ≢ front)
  lost_from client at named =
      let one = mapped (losing front) parties client named.0 named.1 in
      let was = marked_names front one.0.log at (subst (λ all. Contains all at) (ap (λ (it : Party). positions it.log) one.2) named.2) in
      ((one.0, one.1, was.0), was.1)
