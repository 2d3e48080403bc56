-- What holds of the claims of all zones, by what holds of those of each.
use Rattle.std.proofs.Common.{◌≡◌, ℕ, zero, suc, ◌+◌, ◌^◌, ◌<◌, List, [], ◌∷◌, ◌++◌, length, map, get_or, set, Option, Some, None, IfSome, IsNone, ◌↔◌, sym, ap, subst, inl, inr, refl, arith, All, Contains, AllPairs, IsPermutation, ◌∙◌, append-nil, take}
use Rattle.std.specs.List.{flat_map}
use Rattle.std.proofs.lemmas.List.Concat.{flat_map-append}
use Rattle.std.proofs.lemmas.Bool.{cases_eq}
use Rattle.std.proofs.lemmas.Int.{ints}
use Rattle.std.proofs.lemmas.List.{get_or_default, get_or-set_same, get_or-set_other, get_or-map, length-map, length-set, map_more}
use Rattle.std.proofs.lemmas.List.Elements.{All-nil, All-head, All-tail, All-append, All-contains, Contains-append_left, Contains-append_right, All-contains_itself, All-map, All-weaker}
use Rattle.std.proofs.lemmas.List.Sorted.{IsPermutation-append_left, IsPermutation-append_right, IsPermutation-middle, IsPermutation-sym, IsPermutation-trans}
use Rattle.rail_types.specs.declared.paths.Claim.{Claim}
use Rattle.rail_types.specs.Limits.{IsNearSpan}
use Rattle.rail_types.specs.Occupation.{Clash, Fits, HasTicks, HeldClaim}
use Rattle.rail_types.specs.FirstClash.{AreApart, ClashesWith, first_clash, IsBefore, IsFirstClash}
use Rattle.occupation_book.specs.Zones.{Zone}
use Rattle.occupation_book.specs.Held.{claims_by_zone, held, zone_at, AreInOrder, AreNear, IsBook, IsFree, HasEndedBefore}
use Rattle.occupation_book.proofs.Orders.{order_of_none}
use Rattle.occupation_book.proofs.Pairs.{all_pairs_nil, all_pairs_append, all_pairs_weaker}

-- a zone that was read is the one of that number
pub at_zone : (book : List Zone) (number : ℕ) (zone : Zone) → number < length book → zone ≡ get_or book number zone → zone ≡ zone_at book number
at_zone book number zone within read = read ∙ get_or_default book number zone _ within

-- what holds of the claims of each zone holds of all
pub all_held : (P : HeldClaim → Type 0) (book : List Zone) → ((number : ℕ) → number < length book → All P (zone_at book number).claims) → All P (held book)
all_held P [] each = All-nil P
all_held P (zone ∷ zones) each = All-append P zone.claims (held zones) (each 0 (omega arith)) (all_held P zones (λ number within. each (suc number) (omega arith)))

-- a claim of a zone is held
pub is_held : (book : List Zone) (number : ℕ) (one : HeldClaim) → number < length book → Contains (zone_at book number).claims one → Contains (held book) one
is_held [] number one within contains = absurd (omega arith)
is_held (zone ∷ zones) zero one within contains = Contains-append_left zone.claims (held zones) one contains
is_held (zone ∷ zones) (suc number) one within contains = Contains-append_right zone.claims (held zones) one (is_held zones number one (omega arith) contains)

-- what holds of all held claims holds of those of a zone
pub all_of_zone : (P : HeldClaim → Type 0) (book : List Zone) (number : ℕ) → number < length book → All P (held book) → All P (zone_at book number).claims
all_of_zone P book number within all k other in_range = All-contains P (held book) _ all (is_held book number _ within (All-contains_itself (zone_at book number).claims k other in_range))

-- the held claims of a zone are the zone's
pub all_on_zone : (book : List Zone) → IsBook book → (zone : ℕ) → zone < length book → All (λ one. one.0.zone ≡ zone → Contains (zone_at book zone).claims one) (held book)
all_on_zone book is_book zone within = all_held (λ one. one.0.zone ≡ zone → Contains (zone_at book zone).claims one) book (λ number in_range. elim (cases_eq number zone) [
  | inl same ↦ subst (λ n. All (λ one. one.0.zone ≡ zone → Contains (zone_at book zone).claims one) (zone_at book n).claims) (sym same) (λ k other in_zone on. All-contains_itself (zone_at book zone).claims k other in_zone)
  | inr differs ↦ λ k other in_zone on. absurd (differs (sym ((is_book.in_order number in_range).on_zone k other in_zone) ∙ on))
])

module _ (book : List Zone) (is_book : IsBook book) (claim : Claim) (within : claim.zone < length book) where
  -- the claims of other zones do not clash
  others_apart : (P : HeldClaim → Type 0) → All (λ other. Clash other.0 claim → P other) (zone_at book claim.zone).claims → All (λ other. Clash other.0 claim → P other) (held book)
  others_apart P here = all_held (λ other. Clash other.0 claim → P other) book (λ number in_range. elim (cases_eq number claim.zone) [
    | inl same ↦ subst (λ n. All (λ other. Clash other.0 claim → P other) (zone_at book n).claims) (sym same) here
    | inr differs ↦ λ k other in_zone clash. let on = (is_book.in_order number in_range).on_zone k other in_zone in absurd (differs (sym on ∙ clash.0))
  ])

  pub free_by_zone : IsFree (zone_at book claim.zone).claims claim → IsFree (held book) claim
  free_by_zone free = others_apart (λ other. ⊥) free

  pub free_of_zone : IsFree (held book) claim → IsFree (zone_at book claim.zone).claims claim
  free_of_zone free = all_of_zone (λ other. ¬ Clash other.0 claim) book claim.zone within free

  -- a claim that clashes with the list of one clashes with that one
  clash_of_one : (one : HeldClaim) → ClashesWith (claim ∷ []) one → Clash one.0 claim
  clash_of_one one (zero, other, in_range, same, clash) = subst (λ claim. Clash one.0 claim) (sym same) clash
  clash_of_one one (suc k, other, in_range, same, clash) = absurd (omega arith)

  with_one : (one : HeldClaim) → Clash one.0 claim → ClashesWith (claim ∷ []) one
  with_one one clash = (0, claim, omega arith, refl, clash)

  pub first_by_zone : (found : HeldClaim) → IsFirstClash (zone_at book claim.zone).claims (claim ∷ []) found → IsFirstClash (held book) (claim ∷ []) found
  first_by_zone found first = record {
    is_held = is_held book claim.zone found within first.is_held;
    clashes = first.clashes;
    others = λ k other in_range clashes.
        others_apart (λ other. ¬ IsBefore other.0 found.0) (λ k other in_zone clash. first.others k other in_zone (with_one (get_or (zone_at book claim.zone).claims k other) clash)) k other in_range (clash_of_one (get_or (held book) k other) clashes);
  }

  -- nothing that is held clashes with the list of this one
  pub free_fits : IsFree (held book) claim → Fits (claim ∷ []) (map (λ one. one.0) (held book))
  free_fits free zero d in_range = All-map (λ other. ¬ Clash claim other) (λ one. one.0) (held book) (λ k other in_held clash. free k other in_held (sym clash.0, (clash.1.1, clash.1.0)))
  free_fits free (suc k) d in_range = absurd (omega arith)

  -- what a zone tells is what all zones tell, by what the first clash is
  pub first_of_all : (none : Fits (claim ∷ []) (map (λ one. one.0) (held book)) → first_clash (held book) (claim ∷ []) ≡ None) (some : (first : HeldClaim) → IsFirstClash (held book) (claim ∷ []) first → first_clash (held book) (claim ∷ []) ≡ Some first) (found : Option HeldClaim) → IfSome found (IsFirstClash (zone_at book claim.zone).claims (claim ∷ [])) → (IsNone found ↔ IsFree (zone_at book claim.zone).claims claim) → found ≡ first_clash (held book) (claim ∷ [])
  first_of_all none some None first free = sym (none (free_fits (free_by_zone (free.0 refl))))
  first_of_all none some (Some found) first free = sym (some found (first_by_zone found first))

-- zones that are numbered from `first` on, each in order
abbrev AreNumbered : ℕ → List Zone → Type 0
AreNumbered first zones = (number : ℕ) → number < length zones → AreInOrder (first + number) (zone_at zones number).claims

numbered_tail : (first : ℕ) (zone : Zone) (zones : List Zone) → AreNumbered first (zone ∷ zones) → AreNumbered (suc first) zones
numbered_tail first zone zones numbered number within = subst (λ n. AreInOrder n (zone_at zones number).claims) {x = first + suc number} (omega arith) (numbered (suc number) (omega arith))

numbered_head : (first : ℕ) (zone : Zone) (zones : List Zone) → AreNumbered first (zone ∷ zones) → AreInOrder first zone.claims
numbered_head first zone zones numbered = subst (λ n. AreInOrder n zone.claims) {x = first + 0} (omega arith) (numbered 0 (omega arith))

-- the held claims are by zone, then by begin
sorted_from : (first : ℕ) (zones : List Zone) → AreNumbered first zones → AllPairs HasEndedBefore (held zones)
sorted_from first [] numbered = all_pairs_nil HasEndedBefore
sorted_from first (zone ∷ zones) numbered =
    let rest = numbered_tail first zone zones numbered in
    let here = numbered_head first zone zones numbered in
    let beyond : All (λ other. first < other.0.zone) (held zones) = all_held (λ other. first < other.0.zone) zones (λ number within k other in_range. omega (arith, (rest number within).on_zone k other in_range)) in
    all_pairs_append HasEndedBefore zone.claims (held zones)
    (λ i j other before within. inr (here.on_zone i other (omega arith) ∙ sym (here.on_zone j other within), here.sorted i j other before within))
    (sorted_from (suc first) zones rest)
    (λ k other within. All-weaker (λ later. first < later.0.zone) (HasEndedBefore (get_or zone.claims k other)) (λ later behind. inl (subst (λ n. n < later.0.zone) (sym (here.on_zone k other within)) behind)) (held zones) beyond)

pub held_sorted : (book : List Zone) → IsBook book → AllPairs HasEndedBefore (held book)
held_sorted book is_book = sorted_from 0 book (λ number within. subst (λ n. AreInOrder n (zone_at book number).claims) {x = number} (omega arith) (is_book.in_order number within))

-- a claim that comes before another does not clash with it
apart_when_before : (one later : HeldClaim) → HasEndedBefore one later → ¬ Clash one.0 later.0
apart_when_before one later (inl lower) clash = let same = clash.0 in omega arith
apart_when_before one later (inr ended) clash = let begins = clash.1.1 in let ends = ended.1 in omega (arith, ints)

pub held_near : (book : List Zone) → IsBook book → AreNear (held book)
held_near book is_book = all_held (λ one. IsNearSpan one.0.span) book (λ number within. (is_book.in_order number within).near)

pub held_apart : (book : List Zone) → IsBook book → AreApart (held book)
held_apart book is_book = record {
  ticks = all_held (λ one. HasTicks one.0.span) book (λ number within. (is_book.in_order number within).ticks);
  apart = all_pairs_weaker HasEndedBefore (λ one other. ¬ Clash one.0 other.0) apart_when_before (held book) (held_sorted book is_book);
}

-- one zone of a book, changed
module _ (new : Zone) where
  pub same_claims : (book : List Zone) (number : ℕ) → number < length book → new.claims ≡ (zone_at book number).claims → claims_by_zone (set book number new) ≡ claims_by_zone book
  same_claims [] number within same = refl
  same_claims (zone ∷ zones) zero within same = ap (λ claims. claims ∷ claims_by_zone zones) same
  same_claims (zone ∷ zones) (suc number) within same = ap (λ others. zone.claims ∷ others) (same_claims zones number (omega arith) same)

  pub one_gained : (book : List Zone) (number : ℕ) (one : HeldClaim) → number < length book → IsPermutation (one ∷ (zone_at book number).claims) new.claims → IsPermutation (one ∷ held book) (held (set book number new))
  one_gained [] number one within gained = absurd (omega arith)
  one_gained (zone ∷ zones) zero one within gained = IsPermutation-append_left (held zones) _ _ gained
  one_gained (zone ∷ zones) (suc number) one within gained = IsPermutation-trans _ _ _ (IsPermutation-sym _ _ (IsPermutation-middle zone.claims one (held zones))) (IsPermutation-append_right zone.claims _ _ (one_gained zones number one (omega arith) gained))

  pub book_with_it : (book : List Zone) (number : ℕ) → IsBook book → number < length book → AreInOrder number new.claims → IsBook (set book number new)
  book_with_it book changed is_book within order = record {
    counted = simp length-set (is_book.counted);
    in_order = λ number in_range. elim (cases_eq number changed) [
      | inl same ↦ rw same (rw (get_or-set_same book changed new _ within) order)
      | inr differs ↦ rw (get_or-set_other book changed number new _ differs) (is_book.in_order number (simp length-set at in_range))
    ];
  }

-- a book is told by the claims of its zones
pub book_by_claims : (book other : List Zone) → claims_by_zone other ≡ claims_by_zone book → IsBook book → IsBook other
book_by_claims book other same is_book =
    let long : length other ≡ length book = sym (length-map other (λ zone. zone.claims)) ∙ (ap length same ∙ length-map book (λ zone. zone.claims)) in
    record {
      counted = omega (arith, is_book.counted);
      in_order = λ number within.
          let here : get_or (claims_by_zone other) number [] ≡ (zone_at other number).claims = get_or-map (λ zone. zone.claims) other number _ [] within in
          let there : get_or (claims_by_zone book) number [] ≡ (zone_at book number).claims = get_or-map (λ zone. zone.claims) book number _ [] (omega arith) in
          subst (AreInOrder number) (sym there ∙ (ap (λ all. get_or all number []) (sym same) ∙ here)) (is_book.in_order number (omega arith));
    }

-- one zone more
pub claims_more : (zones : List Zone) (number : ℕ) (zone : Zone) → number < length zones → zone ≡ get_or zones number zone → claims_by_zone (take (number + 1) zones) ≡ claims_by_zone (take number zones) ++ zone.claims ∷ []
claims_more zones number zone within read = map_more (λ one. one.claims) zones number zone within ∙ ap (λ one. claims_by_zone (take number zones) ++ one.claims ∷ []) (sym read)

pub held_more : (zones : List Zone) (number : ℕ) (zone : Zone) → number < length zones → zone ≡ get_or zones number zone → held (take (number + 1) zones) ≡ held (take number zones) ++ zone.claims
held_more zones number zone within read =
    let joined = flat_map-append (λ claims. claims) (claims_by_zone (take number zones)) (zone.claims ∷ []) in
    ap (flat_map (λ claims. claims)) (claims_more zones number zone within read) ∙ (joined ∙ ap (λ last. held (take number zones) ++ last) (append-nil zone.claims))

-- zones without claims
module _ (book : List Zone) (empty : All (λ zone. zone.claims ≡ []) book) where
  pub book_of_none : length book < 2 ^ 32 → IsBook book
  book_of_none counted = record { counted = counted; in_order = λ number within. subst (AreInOrder number) (sym (empty number _ within)) (order_of_none number) }

pub held_by_none : (book : List Zone) → All (λ zone. zone.claims ≡ []) book → held book ≡ []
held_by_none [] empty = refl
held_by_none (zone ∷ zones) empty =
    let here : zone.claims ≡ [] = All-head (λ one. one.claims ≡ []) zone zones empty in
    rw here (held_by_none zones (All-tail (λ one. one.claims ≡ []) zone zones empty))
