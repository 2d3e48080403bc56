-- The claims of an owner are taken out of the zones of a list of claims.
use Rattle.std.proofs.Common.{◌≡◌, ◌⊎◌, ℕ, ◌+◌, ◌-◌, ◌<◌, ◌≤◌, Bool, true, not, List, [], ◌∷◌, length, filter, get_or, set, sym, ap, subst, inl, inr, refl, arith, nat_eq, ◌∙◌, Any, Contains, zero, suc, min, ◌++◌, length-append}
use Rattle.std.proofs.lemmas.Bool.{cases_Bool, cases_eq}
use Rattle.std.proofs.lemmas.Bool.Decides.{nat_tests}
use Rattle.std.proofs.lemmas.List.{get_or-set_same, get_or-set_other, length-set, get_or_default}
use Rattle.std.proofs.lemmas.List.Elements.{All-contains, All-contains_itself, All-filter, filter_passes, filter-append}
use Rattle.rail_types.specs.declared.paths.Claim.{Claim}
use Rattle.rail_types.specs.declared.entries.Owner.{Owner}
use Rattle.rail_types.specs.declared.entries.Owner.TheVariants.{Base, Entry}
use Rattle.rail_types.specs.Occupation.{HeldClaim}
use Rattle.occupation_book.specs.Zones.{Zone}
use Rattle.occupation_book.specs.Held.{AreOnZonesOf, IsBook, IsWithout, claims_of, claims_of_others, held, is_same_owner, zone_at}
use Rattle.occupation_book.proofs.AllZones.{at_zone, is_held}

-- ---- a filter and its contrary

module _ {X : Type 0} (p : X → Bool) where
  none_left : (xs : List X) → filter p (filter (λ x. not (p x)) xs) ≡ []
  none_left [] = refl
  none_left (x ∷ xs) = elim (cases_Bool (p x)) [
    | inl passes ↦ rw passes (none_left xs)
    | inr fails ↦ rw fails (rw fails (none_left xs))
  ]

  same_again : (xs : List X) → filter (λ x. not (p x)) (filter (λ x. not (p x)) xs) ≡ filter (λ x. not (p x)) xs
  same_again [] = refl
  same_again (x ∷ xs) = elim (cases_Bool (p x)) [
    | inl passes ↦ rw passes (same_again xs)
    | inr fails ↦ rw fails (rw fails (ap (λ rest. x ∷ rest) (same_again xs)))
  ]

  all_left : (xs : List X) → filter p xs ≡ [] → filter (λ x. not (p x)) xs ≡ xs
  all_left [] none = refl
  all_left (x ∷ xs) none = elim (cases_Bool (p x)) [
    | inl passes ↦ let wrong : x ∷ filter p xs ≡ [] = rw passes at none in cc
    | inr fails ↦ let rest : filter p xs ≡ [] = rw fails at none in rw fails (ap (λ others. x ∷ others) (all_left xs rest))
  ]

  first_kept : (xs : List X) (x : X) (rest : List X) → filter p xs ≡ x ∷ rest → Contains xs x × (p x ≡ true)
  first_kept xs x rest same =
      let contains : Contains (filter p xs) x = subst (λ all. Contains all x) (sym same) (0, omega arith, refl) in
      (All-contains (Contains xs) (filter p xs) x (All-filter p (Contains xs) xs (All-contains_itself xs)) contains, All-contains (λ y. p y ≡ true) (filter p xs) x (filter_passes p xs) contains)

same_number : (a b : ℕ) → nat_eq a b ≡ true → a ≡ b
same_number a b test = grind (arith, nat_tests)

same_owner : (a b : Owner) → is_same_owner a b ≡ true → a ≡ b
same_owner (Base a) (Base b) test = ap Base (same_number a b test)
same_owner (Entry a) (Entry b) test = ap Entry (same_number a b test)
same_owner (Base a) (Entry b) test = cc
same_owner (Entry a) (Base b) test = cc

module _ (owner : Owner) where
  -- how many of these claims the owner holds
  abbrev pub count_own : List HeldClaim → ℕ
  count_own claims = length (claims_of owner claims)

  own_append : (some others : List HeldClaim) → count_own (some ++ others) ≡ count_own some + count_own others
  own_append some others =
      ap length (filter-append (λ one. is_same_owner one.1 owner) some others) ∙ length-append (claims_of owner some) (claims_of owner others)

  -- a zone without the owner's claims in the place of one
  own_less : (book : List Zone) (number : ℕ) (new : Zone) → number < length book → claims_of owner new.claims ≡ [] → count_own (held (set book number new)) + count_own (zone_at book number).claims ≡ count_own (held book)
  own_less [] number new within none = absurd (omega arith)
  own_less (zone ∷ zones) zero new within none =
      omega (arith, own_append new.claims (held zones), own_append zone.claims (held zones), ap length none)
  own_less (zone ∷ zones) (suc number) new within none =
      omega (arith, own_append zone.claims (held (set zones number new)), own_append zone.claims (held zones), own_less zones number new (omega arith) none)

  -- what is taken out so far and what is left are what there was
  pub record AreCounted (old now : List Zone) (count : ℕ) : Type 0 where
    pub sum : min (count + count_own (held now)) 4294967295 ≡ min (count_own (held old)) 4294967295
    pub most : count ≤ 4294967295

  pub counted_none : (old : List Zone) → AreCounted old old 0
  counted_none old = record { sum = omega arith; most = omega arith }

  adds : (count here left before all more sum : ℕ) → left + here ≡ before → min (count + before) 4294967295 ≡ min all 4294967295 → more ≡ min here 4294967295 → sum ≡ min (count + more) 4294967295 → min (sum + left) 4294967295 ≡ min all 4294967295
  adds count here left before all more sum parts known counts saturates = omega (arith, parts, known, counts, saturates)

  pub counted_more : (old now : List Zone) (number count : ℕ) (zone new : Zone) (more sum : ℕ) → AreCounted old now count → number < length now → zone ≡ get_or now number zone → IsWithout owner zone new → more ≡ min (count_own zone.claims) 4294967295 → sum ≡ min (count + more) 4294967295 → AreCounted old (set now number new) sum
  counted_more old now number count zone new more sum counted within read without counts saturates =
      let here : zone ≡ zone_at now number = at_zone now number zone within read in
      let none : claims_of owner new.claims ≡ [] = ap (claims_of owner) without.claims ∙ none_left (λ one. is_same_owner one.1 owner) zone.claims in
      let parts : count_own (held (set now number new)) + count_own zone.claims ≡ count_own (held now) = rw here (own_less now number new within none) in
      record {
        sum = adds count (count_own zone.claims) (count_own (held (set now number new))) (count_own (held now)) (count_own (held old)) more sum parts counted.sum counts saturates;
        most = omega (arith, saturates);
      }

  pub all_counted : (old now : List Zone) (count : ℕ) → AreCounted old now count → held now ≡ claims_of_others owner (held old) → count ≡ min (count_own (held old)) 4294967295
  all_counted old now count counted out =
      let none : claims_of owner (held now) ≡ [] = ap (claims_of owner) out ∙ none_left (λ one. is_same_owner one.1 owner) (held old) in
      omega (arith, counted.sum, counted.most, ap length none)

  -- taken out twice is taken out
  without_twice : (a b c : Zone) → IsWithout owner a b → IsWithout owner b c → IsWithout owner a c
  without_twice a b c first again =
      let none : claims_of owner b.claims ≡ [] = ap (claims_of owner) first.claims ∙ none_left (λ one. is_same_owner one.1 owner) a.claims in
      record {
        claims = again.claims ∙ (ap (claims_of_others owner) first.claims ∙ same_again (λ one. is_same_owner one.1 owner) a.claims);
        room = omega (arith, again.room, first.room, ap length none);
      }

  without_none : (a : Zone) → claims_of owner a.claims ≡ [] → IsWithout owner a a
  without_none a none = record { claims = sym (all_left (λ one. is_same_owner one.1 owner) a.claims none); room = omega (arith, ap length none) }

  module _ (claims : List Claim) (old : List Zone) where
    -- the owner's claims are out of the zones of the first claims, and each zone is without them or as it was
    pub record IsTakenOut (now : List Zone) (at : ℕ) : Type 0 where
      pub long : length now ≡ length old
      pub each : (number : ℕ) → number < length old → IsWithout owner (zone_at old number) (zone_at now number) ⊎ (zone_at now number ≡ zone_at old number)
      pub done : (k : ℕ) (d : Claim) → k < at → IsWithout owner (zone_at old (get_or claims k d).zone) (zone_at now (get_or claims k d).zone)

    pub taken_none : IsTakenOut old 0
    taken_none = record { long = refl; each = λ number within. inr refl; done = λ k d below. absurd (omega arith) }

    -- the zone of one more claim
    pub taken_more : (now : List Zone) (at : ℕ) (claim default : Claim) (zone new : Zone) → IsTakenOut now at → at < length claims → claim ≡ get_or claims at default → claim.zone < length now → zone ≡ get_or now claim.zone zone → IsWithout owner zone new → IsTakenOut (set now claim.zone new) (at + 1)
    taken_more now at claim default zone new taken within is in_range read without =
        let here : zone ≡ zone_at now claim.zone = at_zone now claim.zone zone in_range read in
        let at_new : zone_at (set now claim.zone new) claim.zone ≡ new = get_or-set_same now claim.zone new _ in_range in
        let in_old : claim.zone < length old = omega (arith, taken.long) in
        let now_out : IsWithout owner (zone_at old claim.zone) new = elim (taken.each claim.zone in_old) [
          | inl out ↦ without_twice (zone_at old claim.zone) zone new (subst (IsWithout owner (zone_at old claim.zone)) (sym here) out) without
          | inr same ↦ subst (λ before. IsWithout owner before new) (here ∙ same) without
        ] in
        record {
          long = simp length-set taken.long;
          each = λ number within_old. elim (cases_eq number claim.zone) [
            | inl same ↦ rw (same, at_new) (inl now_out)
            | inr differs ↦ rw (get_or-set_other now claim.zone number new _ differs) (taken.each number within_old)
          ];
          done = λ k d below. elim (cases_eq (get_or claims k d).zone claim.zone) [
            | inl same ↦ rw (same, at_new) now_out
            | inr differs ↦ rw (get_or-set_other now claim.zone (get_or claims k d).zone new _ differs) (taken.done k d (before k d below differs))
          ];
        }
      where
        before : (k : ℕ) (d : Claim) → k < at + 1 → ((get_or claims k d).zone ≡ claim.zone → ⊥) → k < at
        before k d below differs = elim (cases_eq k at) [
          | inl same ↦ absurd (differs (ap (λ (one : Claim). one.zone) (ap (λ n. get_or claims n d) same ∙ (get_or_default claims at d default within ∙ sym is))))
          | inr other ↦ omega arith
        ]

    -- the zone of one more claim is that of the one before it
    pub taken_again : (now : List Zone) (at : ℕ) → IsTakenOut now at → ((d : Claim) → (0 < at) × ((get_or claims (at - 1) d).zone ≡ (get_or claims at d).zone)) → IsTakenOut now (at + 1)
    taken_again now at taken again = record {
      long = taken.long;
      each = taken.each;
      done = λ k d below. elim (cases_eq k at) [
        | inl same ↦
            let level = again d in
            let out = taken.done (at - 1) d (omega (arith, level.0)) in
            rw same (subst (λ number. IsWithout owner (zone_at old number) (zone_at now number)) level.1 out)
        | inr other ↦ taken.done k d (omega arith)
      ];
    }

    -- where all the owner's claims are on these zones, it is out of all
    pub all_taken : (now : List Zone) (at : ℕ) → IsTakenOut now at → length claims ≤ at → IsBook old → AreOnZonesOf owner (held old) claims → (number : ℕ) → number < length old → IsWithout owner (zone_at old number) (zone_at now number)
    all_taken now at taken end is_book on number within = elim (taken.each number within) [
      | inl out ↦ out
      | inr same ↦ by_claims same (claims_of owner (zone_at old number).claims) refl
    ]
      where
        by_claims : zone_at now number ≡ zone_at old number → (own : List HeldClaim) → claims_of owner (zone_at old number).claims ≡ own → IsWithout owner (zone_at old number) (zone_at now number)
        by_claims same [] none = rw same (without_none (zone_at old number) none)
        by_claims same (one ∷ rest) some =
            let kept = first_kept (λ one. is_same_owner one.1 owner) (zone_at old number).claims one rest some in
            let on_zone : one.0.zone ≡ number = All-contains (λ one. one.0.zone ≡ number) (zone_at old number).claims one (is_book.in_order number within).on_zone kept.0 in
            let found = All-contains (λ one. one.1 ≡ owner → Any (λ claim. claim.zone ≡ one.0.zone) claims) (held old) one on (is_held old number one within kept.0) (same_owner one.1 owner kept.1) in
            subst (λ number. IsWithout owner (zone_at old number) (zone_at now number)) (ap (λ (claim : Claim). claim.zone) found.3 ∙ (found.4 ∙ on_zone)) (taken.done found.0 found.1 (omega (arith, found.2)))
