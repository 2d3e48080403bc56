-- The claims of an owner are taken out zone by zone.
use Rattle.std.proofs.Common.{◌≡◌, ℕ, suc, ◌+◌, ◌<◌, ◌≤◌, min, not, List, [], ◌∷◌, ◌++◌, map, length, get_or, set, take, sym, ap, subst, inl, inr, refl, arith, length-append, ◌∙◌}
use Rattle.std.specs.List.{flat_map}
use Rattle.std.proofs.lemmas.Bool.{cases_eq}
use Rattle.std.proofs.lemmas.List.{get_or_default, get_or-set_same, get_or-set_other, length-set, take_all}
use Rattle.std.proofs.lemmas.List.Elements.{filter-append}
use Rattle.rail_types.specs.declared.entries.Owner.{Owner}
use Rattle.rail_types.specs.Occupation.{HeldClaim}
use Rattle.occupation_book.specs.Zones.{Zone}
use Rattle.occupation_book.specs.Held.{claims_by_zone, held, zone_at, claims_of, claims_of_others, is_same_owner, AreInOrder, IsBook, IsWithout}
use Rattle.occupation_book.proofs.Orders.{order_of_some}
use Rattle.occupation_book.proofs.AllZones.{at_zone, held_more}

-- the owner's claims are out of the zones below a number, and counted
pub record IsRemovedBelow (owner : Owner) (old now : List Zone) (number count : ℕ) : Type 0 where
  pub long : length now ≡ length old
  pub done : (k : ℕ) → k < number → IsWithout owner (zone_at old k) (zone_at now k)
  pub left : (k : ℕ) → number ≤ k → zone_at now k ≡ zone_at old k
  pub counted : count ≡ min (length (claims_of owner (held (take number old)))) 4294967295

pub removed_none : (owner : Owner) (old : List Zone) → IsRemovedBelow owner old old 0 0
removed_none owner old = record { long = refl; done = λ k below. absurd (omega arith); left = λ k from. refl; counted = refl }

-- sums that stop at a limit
counts_add : (whole part rest count more sum : ℕ) → whole ≡ part + rest → count ≡ min part 4294967295 → more ≡ min rest 4294967295 → sum ≡ min (count + more) 4294967295 → sum ≡ min whole 4294967295
counts_add whole part rest count more sum joined counted counts saturates = omega arith

pub removed_more : (owner : Owner) (old now : List Zone) (number count : ℕ) (zone new : Zone) (more sum : ℕ) → IsRemovedBelow owner old now number count → number < length now → zone ≡ get_or now number zone → IsWithout owner zone new → more ≡ min (length (claims_of owner zone.claims)) 4294967295 → sum ≡ min (count + more) 4294967295 → IsRemovedBelow owner old (set now number new) (number + 1) sum
removed_more owner old now number count zone new more sum removed within read without counts saturates =
    let here : zone ≡ zone_at old number = at_zone now number zone within read ∙ removed.left number (omega arith) in
    let within_old : number < length old = omega (arith, removed.long) in
    let more_counted : length (claims_of owner (held (take (number + 1) old))) ≡ length (claims_of owner (held (take number old))) + length (claims_of owner zone.claims) =
    ap (λ claims. length (claims_of owner claims)) (held_more old number zone within_old (here ∙ get_or_default old number _ zone within_old))
    ∙ (ap length (filter-append (λ one. is_same_owner one.1 owner) (held (take number old)) zone.claims) ∙ length-append (claims_of owner (held (take number old))) (claims_of owner zone.claims)) in
    let at_new : zone_at (set now number new) number ≡ new = get_or-set_same now number new _ within in
    record {
      long = simp length-set removed.long;
      done = λ k below. elim (cases_eq k number) [
        | inl same ↦ rw (same, at_new, ← here) without
        | inr differs ↦ rw (get_or-set_other now number k new _ differs) (removed.done k (omega arith))
      ];
      left = λ k from. let differs : k ≡ number → ⊥ = λ same. omega arith in rw (get_or-set_other now number k new _ differs) (removed.left k (omega arith));
      counted = counts_add _ _ _ count more sum more_counted removed.counted counts saturates;
    }

-- claims that are told zone by zone
claims_by_index : (owner : Owner) (old now : List Zone) → length now ≡ length old → ((k : ℕ) → k < length old → (zone_at now k).claims ≡ claims_of_others owner (zone_at old k).claims) → claims_by_zone now ≡ map (claims_of_others owner) (claims_by_zone old)
claims_by_index owner [] [] long each = refl
claims_by_index owner [] (new ∷ now) long each = absurd (omega arith)
claims_by_index owner (zone ∷ old) [] long each = absurd (omega arith)
claims_by_index owner (zone ∷ old) (new ∷ now) long each =
    let first : new.claims ≡ claims_of_others owner zone.claims = each 0 (omega arith) in
    let others : claims_by_zone now ≡ map (claims_of_others owner) (claims_by_zone old) = claims_by_index owner old now (omega arith) (λ k within. each (suc k) (omega arith)) in
    rw (first, others) refl

-- what others hold of all is what they hold of each
pub others_of_each : (owner : Owner) (each : List (List HeldClaim)) → flat_map (λ claims. claims) (map (claims_of_others owner) each) ≡ claims_of_others owner (flat_map (λ claims. claims) each)
others_of_each owner [] = refl
others_of_each owner (claims ∷ each) = ap (λ rest. claims_of_others owner claims ++ rest) (others_of_each owner each) ∙ sym (filter-append (λ one. not (is_same_owner one.1 owner)) claims (flat_map (λ one. one) each))

-- the owner's claims are out of each zone
module _ (owner : Owner) (old now : List Zone) (long : length now ≡ length old) (each : (k : ℕ) → k < length old → IsWithout owner (zone_at old k) (zone_at now k)) where
  pub out_by_zone : claims_by_zone now ≡ map (claims_of_others owner) (claims_by_zone old)
  out_by_zone = claims_by_index owner old now long (λ k within. (each k within).claims)

  pub out_of_held : held now ≡ claims_of_others owner (held old)
  out_of_held = ap (flat_map (λ claims. claims)) out_by_zone ∙ others_of_each owner (claims_by_zone old)

  pub book_without : IsBook old → IsBook now
  book_without is_book = record {
    counted = omega (arith, long, is_book.counted);
    in_order = λ k within.
        let within_old : k < length old = omega (arith, long) in
        subst (AreInOrder k) (sym (each k within_old).claims) (order_of_some k (λ one. not (is_same_owner one.1 owner)) (zone_at old k).claims (is_book.in_order k within_old));
  }

pub removed_count : (owner : Owner) (old now : List Zone) (number count : ℕ) → IsRemovedBelow owner old now number count → length old ≤ number → count ≡ min (length (claims_of owner (held old))) 4294967295
removed_count owner old now number count removed all = removed.counted ∙ ap (λ zones. min (length (claims_of owner (held zones))) 4294967295) (take_all number old all)
