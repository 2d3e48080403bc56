-- The live claims of a list of entries.
use Rattle.std.proofs.Common.{◌≡◌, Option, refl, ℕ, zero, suc, ◌+◌, ◌<◌, List, [], ◌∷◌, ◌++◌, length, get_or, map, take, slice_get, Some, is_some, if◌then◌else◌, Contains, sym, ap, subst, ◌⊎◌, inl, inr, arith, ◌∙◌, add-zero, add-one, append-nil, append_assoc, None}
use Rattle.std.proofs.lemmas.Option.{same_Some}
use Rattle.std.proofs.lemmas.List.{get_or-map, length-map}
use Rattle.std.proofs.lemmas.List.Elements.{Contains-append_left, Contains-append_right, Contains-append_cases}
use Rattle.rail_types.specs.declared.paths.Claim.{Claim}
use Rattle.rail_types.specs.declared.bases.BaseClaim.{BaseClaim}
use Rattle.rail_types.specs.declared.entries.Entry.{Entry}
use Rattle.rail_types.specs.declared.entries.Owner.TheVariants.{Base as of_train, Entry as of_entry}
use Rattle.rail_types.specs.Occupation.{HeldClaim}
use Rattle.rail_types.specs.Timetables.{Timetable, base_claims}
use Rattle.grant_log.specs.Live.{claims_of, freed_by, live_claims, live_from, live_of, owned_by}

-- a claim with an owner is that of the entry at a place of the part of a history that begins at a position, and none
-- frees it
pub record IsOf (timetable : Timetable) (entries : List Entry) (at : ℕ) (others : List Entry) (held : HeldClaim) (place : ℕ) (entry : Entry) : Type 0 where
  pub stands : slice_get others place ≡ Some entry
  pub owner : held.1 ≡ of_entry (at + place)
  pub claim : Contains (claims_of timetable entry.deed) held.0
  pub unfreed : freed_by entries (at + place) ≡ None

pub owned_is : (at : ℕ) (claims : List Claim) (held : HeldClaim) → Contains (owned_by at claims) held → (held.1 ≡ of_entry at) × Contains claims held.0
owned_is at claims held (k, within, here) =
    let own : Claim → HeldClaim = λ claim. (claim, of_entry at) in
    let within_claims : k < length claims = omega (arith, length-map claims own) in
    let same : own (get_or claims k held.0) ≡ held = sym (get_or-map own claims k held.0 held within_claims) ∙ here in
    (sym (ap (λ (one : HeldClaim). one.1) same), (k, within_claims, ap (λ (one : HeldClaim). one.0) same))

pub is_owned : (at : ℕ) (claims : List Claim) (claim : Claim) → Contains claims claim → Contains (owned_by at claims) (claim, of_entry at)
is_owned at claims claim (k, within, here) =
    let own : Claim → HeldClaim = λ one. (one, of_entry at) in
    (k, omega (arith, length-map claims own), get_or-map own claims k claim (own claim) within ∙ ap own here)

-- claims that are there only where none frees them
unfreed_when : (freer : Option ℕ) (claims : List HeldClaim) (held : HeldClaim) → Contains (if is_some freer then [] else claims) held → (freer ≡ None) × Contains claims held
unfreed_when None claims held contains = (refl, contains)
unfreed_when (Some freer) claims held (k, within, here) = absurd (omega arith)

module _ (timetable : Timetable) (entries : List Entry) where
  pub live_is : (at : ℕ) (others : List Entry) (held : HeldClaim) → Contains (live_from timetable entries at others) held → (place : ℕ) × (entry : Entry) × IsOf timetable entries at others held place entry
  live_is at [] held (k, within, here) = absurd (omega arith)
  live_is at (entry ∷ others) held contains = elim (Contains-append_cases (live_of timetable entries at entry) (live_from timetable entries (at + 1) others) held contains) [
    | inl own ↦
        let kept = unfreed_when (freed_by entries at) (owned_by at (claims_of timetable entry.deed)) held own in
        let facts = owned_is at (claims_of timetable entry.deed) held kept.1 in
        (0, entry, record { stands = refl; owner = rw add-zero facts.0; claim = facts.1; unfreed = subst (λ k. freed_by entries k ≡ None) (sym (add-zero at)) kept.0 })
    | inr other ↦
        let rest = live_is (at + 1) others held other in
        let number : at + 1 + rest.0 ≡ at + suc rest.0 = omega arith in
        (suc rest.0, rest.1, record { stands = rest.2.stands; owner = subst (λ k. held.1 ≡ of_entry k) number rest.2.owner; claim = rest.2.claim; unfreed = subst (λ k. freed_by entries k ≡ None) number rest.2.unfreed })
  ]

  pub is_live : (at : ℕ) (others : List Entry) (place : ℕ) (entry : Entry) (claim : Claim) → slice_get others place ≡ Some entry → Contains (claims_of timetable entry.deed) claim → freed_by entries (at + place) ≡ None → Contains (live_from timetable entries at others) (claim, of_entry (at + place))
  is_live at [] place entry claim here contains unfreed = let wrong : ◌≡◌ {A = Option Entry} None (Some entry) = here in cc
  is_live at (other ∷ others) zero entry claim here contains unfreed =
      let same : other ≡ entry = same_Some other entry here in
      let none : freed_by entries at ≡ None = subst (λ k. freed_by entries k ≡ None) (add-zero at) unfreed in
      let kept : live_of timetable entries at other ≡ owned_by at (claims_of timetable other.deed) = rw none refl in
      let own : Contains (owned_by at (claims_of timetable other.deed)) (claim, of_entry (at + 0)) = rw add-zero (is_owned at (claims_of timetable other.deed) claim (subst (λ one. Contains (claims_of timetable one.deed) claim) (sym same) contains)) in
      Contains-append_left (live_of timetable entries at other) (live_from timetable entries (at + 1) others) (claim, of_entry (at + 0)) (subst (λ claims. Contains claims (claim, of_entry (at + 0))) (sym kept) own)
  is_live at (other ∷ others) (suc place) entry claim here contains unfreed =
      let number : at + 1 + place ≡ at + suc place = omega arith in
      let rest = is_live (at + 1) others place entry claim here contains (subst (λ k. freed_by entries k ≡ None) (sym number) unfreed) in
      Contains-append_right (live_of timetable entries at other) (live_from timetable entries (at + 1) others) (claim, of_entry (at + suc place)) (subst (λ k. Contains (live_from timetable entries (at + 1) others) (claim, of_entry k)) number rest)

  -- a live claim of an entry, by the entry that stands at its position
  pub record IsUnfreed (held : HeldClaim) (at : ℕ) (entry : Entry) : Type 0 where
    pub owner : held.1 ≡ of_entry at
    pub stands : slice_get entries at ≡ Some entry
    pub claim : Contains (claims_of timetable entry.deed) held.0
    pub unfreed : freed_by entries at ≡ None

  pub from_entries : (held : HeldClaim) → Contains (live_from timetable entries 0 entries) held → (at : ℕ) × (entry : Entry) × IsUnfreed held at entry
  from_entries held contains =
      let found = live_is 0 entries held contains in
      let facts = found.2 in
      let number : 0 + found.0 ≡ found.0 = omega arith in
      (found.0, found.1, record { owner = subst (λ k. held.1 ≡ of_entry k) number facts.owner; stands = facts.stands; claim = facts.claim; unfreed = subst (λ k. freed_by entries k ≡ None) number facts.unfreed })

  -- a live claim is one of the base timetable or of an entry
  pub live_cases : (held : HeldClaim) → Contains (live_claims timetable entries) held → Contains (base_claims timetable) held ⊎ ((at : ℕ) × (entry : Entry) × IsUnfreed held at entry)
  live_cases held contains = elim (Contains-append_cases (base_claims timetable) (live_from timetable entries 0 entries) held contains) [
    | inl planned ↦ inl planned
    | inr taken ↦ inr (from_entries held taken)
  ]

  pub planned_is_live : (held : HeldClaim) → Contains (base_claims timetable) held → Contains (live_claims timetable entries) held
  planned_is_live held = Contains-append_left (base_claims timetable) (live_from timetable entries 0 entries) held

  pub unfreed_is_live : (at : ℕ) (entry : Entry) (claim : Claim) → slice_get entries at ≡ Some entry → Contains (claims_of timetable entry.deed) claim → freed_by entries at ≡ None → Contains (live_claims timetable entries) (claim, of_entry at)
  unfreed_is_live at entry claim here contains unfreed =
      let number : 0 + at ≡ at = omega arith in
      let live = is_live 0 entries at entry claim here contains (subst (λ k. freed_by entries k ≡ None) (sym number) unfreed) in
      Contains-append_right (base_claims timetable) (live_from timetable entries 0 entries) (claim, of_entry at) (subst (λ k. Contains (live_from timetable entries 0 entries) (claim, of_entry k)) number live)

-- the owner of a base claim is a train
owner_of_planned : (base : List BaseClaim) (held : HeldClaim) → Contains (map (λ (one : BaseClaim). (one.claim, of_train one.train)) base) held → (train : ℕ) × (held.1 ≡ of_train train)
owner_of_planned [] held (k, within, here) = absurd (omega arith)
owner_of_planned (one ∷ others) held (zero, within, here) = (one.train, sym (ap (λ (it : HeldClaim). it.1) here))
owner_of_planned (one ∷ others) held (suc k, within, here) = owner_of_planned others held (k, omega arith, here)

pub planned_owner : (timetable : Timetable) (held : HeldClaim) → Contains (base_claims timetable) held → (train : ℕ) × (held.1 ≡ of_train train)
planned_owner timetable = owner_of_planned timetable.base

-- there is an entry at each place within the list
pub entry_at : (entries : List Entry) (place : ℕ) → place < length entries → (entry : Entry) × (slice_get entries place ≡ Some entry)
entry_at [] place within = absurd (omega arith)
entry_at (entry ∷ entries) zero within = (entry, refl)
entry_at (entry ∷ entries) (suc place) within = entry_at entries place (omega arith)

-- the claims of one entry more
pub live_from_more : (timetable : Timetable) (entries : List Entry) (at place : ℕ) (others : List Entry) (entry : Entry) → slice_get others place ≡ Some entry → live_from timetable entries at (take (place + 1) others) ≡ live_from timetable entries at (take place others) ++ live_of timetable entries (at + place) entry
live_from_more timetable entries at place [] entry here = let wrong : ◌≡◌ {A = Option Entry} None (Some entry) = here in cc
live_from_more timetable entries at zero (other ∷ others) entry here =
    let same : other ≡ entry = same_Some other entry here in
    rw (append-nil, add-zero, same) refl
live_from_more timetable entries at (suc place) (other ∷ others) entry here =
    let rest = rw (add-one place) at (live_from_more timetable entries (at + 1) place others entry here) in
    let number : at + 1 + place ≡ at + suc place = omega arith in
    rw (add-one (suc place), append_assoc) (ap (λ claims. live_of timetable entries at other ++ claims) (rw (← number) rest))
