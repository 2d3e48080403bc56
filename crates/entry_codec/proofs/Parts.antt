-- Each part of an entry is read where it is spelled.
use Rattle.std.proofs.Common.{◌≡◌, ℕ, zero, suc, ◌^◌, ◌<◌, ◌≤◌, Bool, true, false, cond, eqb, ◌&&◌, List, [], ◌∷◌, ◌++◌, length, Some, None, Ok, refl, sym, ap, subst, ◌∙◌, append_assoc, arith, ◌⊎◌, inl, inr, ◌||◌, All, AllPairs}
use Rattle.std.proofs.lemmas.Bool.{eqb-true, leb-true, le-leb, ltb-true, lt-ltb, cases_lt, and_parts}
use Rattle.std.proofs.lemmas.List.Elements.{All-from_recursion}
use Rattle.std.proofs.lemmas.List.Kept.{AllPairs-cons}
use Rattle.rail_types.specs.Occupation.{HasTicks, EndsBefore}
use Rattle.std.specs.Prelude.{ℤ, FitsSigned, ◌<ℤ◌, int_lt, int_le, neg_ℤ, nat_le, nat_lt}
use Rattle.std.specs.Str.{is_utf8}
use Rattle.std.specs.List.{flat_map, AllByRecursion}
use Rattle.std.specs.Int.{w32, w64, to_be_bytes}
use Rattle.std.proofs.lemmas.Int.{ints}
use Rattle.std.proofs.lemmas.Str.{IsUtf8-from_is_utf8, is_utf8-from_IsUtf8}
use Rattle.std.proofs.lemmas.List.Concat.{flat_map-cons}
use Rattle.byte_fields.specs.Unread.{Unread, signed_bytes}
use Rattle.rail_types.specs.declared.limits.TheConstants.{MAX_TICK, MAX_NUMBER, MAX_TRAIN_LENGTH_M, MAX_SPEED_MM_S, MAX_ACCEL_MM_S2, MAX_ALLOWANCE_PERCENT, MAX_TRAIN_NAME_BYTES, MAX_DWELL}
use Rattle.rail_types.specs.declared.paths.Claim.{Claim}
use Rattle.rail_types.specs.declared.paths.Window.{Window}
use Rattle.rail_types.specs.declared.paths.Run.{Run}
use Rattle.rail_types.specs.declared.trains.Train.{Train}
use Rattle.rail_types.specs.declared.trains.Stop.{Stop}
use Rattle.rail_types.specs.Limits.{is_between, is_tick, IsTick, IsClaimWithinLimits, IsWindowWithinLimits, IsRunWithinLimits, IsTrainWithinLimits}
use Rattle.entry_codec.specs.Body.{claim_text, window_text, train_text, name_text, stop_text, run_text, flag_byte, list_text}
use Rattle.entry_codec.specs.Within.{IsFourBytes}
use Rattle.entry_codec.specs.Reading.{Reading, done, meant, is_behind, before_all, next_zone_field, begin_field, next_claim_field, claims_field, flag_of, byte_field, name_field, limited_field, position_field, tick_field, later_field, flag_field, claim_field, window_field, train_field, stop_field, run_field, items_field, list_field}
use Rattle.entry_codec.proofs.Readers.{IsBytes, Taken, joined, Spells, with_text, Reads, then_takes, then_spells, made_takes, made_spells, under_limits, meant_reads, passing_reads}
use Rattle.entry_codec.proofs.Numbers.{byte_reads, number_reads, long_number_reads, signed_reads, name_reads, IsNameOf, between, is_between-true}

-- ---- numbers within limits

limited_takes : (least most : ℕ) (old new : Unread) (x : ℕ) → IsBytes old.left → limited_field least most old ≡ Ok (x, new) → Taken old.left (to_be_bytes w32 x) new.left × ((x < 2 ^ 32) × (is_between least most x ≡ true))
unfolding limited_field
limited_takes least most old new x fits e = (passing_reads number_reads (is_between least most)).takes old new x fits e

limited_again : (least most : ℕ) (x : ℕ) → (x < 2 ^ 32) × (is_between least most x ≡ true) → Spells (to_be_bytes w32 x) (limited_field least most) x
unfolding limited_field
limited_again least most x limits = (passing_reads number_reads (is_between least most)).again x limits

pub limited_reads : (least most : ℕ) → most < 2 ^ 32 → Reads (limited_field least most) (to_be_bytes w32) (λ n. (least ≤ n) × (n ≤ most))
limited_reads least most lt =
    under_limits {Limits = λ n. (n < 2 ^ 32) × (is_between least most n ≡ true)} (record { takes = limited_takes least most; again = limited_again least most }) (λ n. (least ≤ n) × (n ≤ most))
    (λ n l. between least most n l.1)
    (λ n l. (omega (arith, l.1), is_between-true least most n l))

position_takes : (old new : Unread) (x : ℕ) → IsBytes old.left → position_field old ≡ Ok (x, new) → Taken old.left (to_be_bytes w64 x) new.left × ((x < 2 ^ 64) × (is_between 0 MAX_NUMBER x ≡ true))
unfolding position_field
position_takes old new x fits e = (passing_reads long_number_reads (is_between 0 MAX_NUMBER)).takes old new x fits e

position_again : (x : ℕ) → (x < 2 ^ 64) × (is_between 0 MAX_NUMBER x ≡ true) → Spells (to_be_bytes w64 x) position_field x
unfolding position_field
position_again x limits = (passing_reads long_number_reads (is_between 0 MAX_NUMBER)).again x limits

pub position_reads : Reads position_field (to_be_bytes w64) (λ n. n ≤ MAX_NUMBER)
position_reads =
    under_limits {Limits = λ n. (n < 2 ^ 64) × (is_between 0 MAX_NUMBER n ≡ true)} (record { takes = position_takes; again = position_again }) (λ n. n ≤ MAX_NUMBER)
    (λ n l. (between 0 MAX_NUMBER n l.1).1)
    (λ n l. (omega (arith, l), is_between-true 0 MAX_NUMBER n (omega arith, l)))

-- ---- ticks

pub tick_passes : (t : ℤ) → is_tick t ≡ true → IsTick t
tick_passes t e = let b = and_parts (int_le (neg_ℤ MAX_TICK) t) (int_le t MAX_TICK) e in (grind (arith, ints, b.0), grind (arith, ints, b.1))

pub tick_is : (t : ℤ) → IsTick t → is_tick t ≡ true
tick_is t h = grind (arith, ints, h.0, h.1)

tick_fits : (t : ℤ) → IsTick t → FitsSigned w64 t
tick_fits t h = omega (arith, ints, h.0, h.1)

pub later_passes : (from t : ℤ) → (is_tick t && int_lt from t) ≡ true → IsTick t × (from <ℤ t)
later_passes from t e = let b = and_parts (is_tick t) (int_lt from t) e in (tick_passes t b.0, grind (arith, ints, b.1))

pub later_is : (from t : ℤ) → IsTick t × (from <ℤ t) → (is_tick t && int_lt from t) ≡ true
later_is from t h = let low = tick_is t h.0 in let high : int_lt from t ≡ true = grind (arith, ints, h.1) in rw (low, high) refl

tick_takes : (old new : Unread) (x : ℤ) → IsBytes old.left → tick_field old ≡ Ok (x, new) → Taken old.left (signed_bytes x) new.left × (FitsSigned w64 x × (is_tick x ≡ true))
unfolding tick_field
tick_takes old new x fits e = (passing_reads signed_reads is_tick).takes old new x fits e

tick_again : (x : ℤ) → FitsSigned w64 x × (is_tick x ≡ true) → Spells (signed_bytes x) tick_field x
unfolding tick_field
tick_again x limits = (passing_reads signed_reads is_tick).again x limits

pub tick_reads : Reads tick_field signed_bytes IsTick
tick_reads =
    under_limits {Limits = λ t. FitsSigned w64 t × (is_tick t ≡ true)} (record { takes = tick_takes; again = tick_again }) IsTick
    (λ t l. tick_passes t l.1)
    (λ t l. (tick_fits t l, tick_is t l))

later_takes : (from : ℤ) (old new : Unread) (x : ℤ) → IsBytes old.left → later_field from old ≡ Ok (x, new) → Taken old.left (signed_bytes x) new.left × (FitsSigned w64 x × ((is_tick x && int_lt from x) ≡ true))
unfolding later_field
later_takes from old new x fits e = (passing_reads signed_reads (λ t. is_tick t && int_lt from t)).takes old new x fits e

later_again : (from : ℤ) (x : ℤ) → FitsSigned w64 x × ((is_tick x && int_lt from x) ≡ true) → Spells (signed_bytes x) (later_field from) x
unfolding later_field
later_again from x limits = (passing_reads signed_reads (λ t. is_tick t && int_lt from t)).again x limits

pub later_reads : (from : ℤ) → Reads (later_field from) signed_bytes (λ t. IsTick t × (from <ℤ t))
later_reads from =
    under_limits {Limits = λ t. FitsSigned w64 t × ((is_tick t && int_lt from t) ≡ true)} (record { takes = later_takes from; again = later_again from }) (λ t. IsTick t × (from <ℤ t))
    (λ t l. later_passes from t l.1)
    (λ t l. (tick_fits t l.0, later_is from t l))

-- ---- a flag

pub chosen : {A : Type 0} (test : Bool) (x y z : A) → cond test x y ≡ z → ((test ≡ true) × (x ≡ z)) ⊎ ((test ≡ false) × (y ≡ z))
chosen true x y z e = inl (refl, e)
chosen false x y z e = inr (refl, e)

pub same_some : {A : Type 0} (x y : A) → Some x ≡ Some y → x ≡ y
same_some x y e = cc

pub nothing_is : {A : Type 0} (x : A) → None ≡ Some x → ⊥
nothing_is x e = absurd cc

flag_meant : (a : ℕ) (b : Bool) → flag_of a ≡ Some b → a ≡ flag_byte b
flag_meant a b e =
    elim (chosen (eqb a 0) (Some false) (cond (eqb a 1) (Some true) None) (Some b) e) [
      | inl zero_is ↦ eqb-true a 0 zero_is.0 ∙ ap flag_byte (same_some false b zero_is.1)
      | inr other ↦
          elim (chosen (eqb a 1) (Some true) None (Some b) other.1) [
            | inl one_is ↦ eqb-true a 1 one_is.0 ∙ ap flag_byte (same_some true b one_is.1)
            | inr neither ↦ absurd (nothing_is b neither.1)
          ]
    ]

flag_spelled : (b : Bool) → (flag_byte b < 256) × (flag_of (flag_byte b) ≡ Some b)
flag_spelled true = (omega arith, refl)
flag_spelled false = (omega arith, refl)

flag_meaning_reads : Reads (meant flag_of byte_field) (λ b. flag_byte b ∷ []) (λ b. Unit {0})
flag_meaning_reads =
    meant_reads byte_reads flag_of (λ b. flag_byte b ∷ []) (λ b. Unit {0})
    (λ a b l e. (ap (λ (n : ℕ). n ∷ []) (flag_meant a b e), tt))
    (λ b l. (flag_byte b, (flag_spelled b).0, refl, (flag_spelled b).1))

flag_takes : (old new : Unread) (x : Bool) → IsBytes old.left → flag_field old ≡ Ok (x, new) → Taken old.left (flag_byte x ∷ []) new.left × Unit {0}
unfolding flag_field
flag_takes old new x fits e = flag_meaning_reads.takes old new x fits e

flag_again : (x : Bool) → Unit {0} → Spells (flag_byte x ∷ []) flag_field x
unfolding flag_field
flag_again x limits = flag_meaning_reads.again x limits

pub flag_reads : Reads flag_field (λ b. flag_byte b ∷ []) (λ b. Unit {0})
flag_reads = record { takes = flag_takes; again = flag_again }

-- ---- windows, claims, stops and runs

-- texts one behind the other
regroup3 : (a b c : List ℕ) → a ++ (b ++ c) ≡ (a ++ b) ++ c
regroup3 a b c = simp append_assoc

regroup4 : (a b c d : List ℕ) → a ++ (b ++ (c ++ d)) ≡ ((a ++ b) ++ c) ++ d
regroup4 a b c d = simp append_assoc

regroup6 : (a b c d e f : List ℕ) → a ++ (b ++ (c ++ (d ++ (e ++ f)))) ≡ ((((a ++ b) ++ c) ++ d) ++ e) ++ f
regroup6 a b c d e f = simp append_assoc

window_takes : (old new : Unread) (x : Window) → IsBytes old.left → window_field old ≡ Ok (x, new) → Taken old.left (window_text x) new.left × IsWindowWithinLimits x
unfolding window_field
window_takes old new x fits e =
    then_takes tick_reads _ _ old (x, new) fits e (λ from mid1 t1 l1 e1.
    then_takes tick_reads _ _ mid1 (x, new) t1.fits e1 (λ to mid2 t2 l2 e2.
    made_takes old mid2 new (record { from = from; to = to }) x window_text IsWindowWithinLimits e2 (joined t1 t2) (record { from = l1; to = l2 })))

window_again : (x : Window) → IsWindowWithinLimits x → Spells (window_text x) window_field x
unfolding window_field
window_again x limits =
    then_spells (tick_reads.again x.from limits.from) _ (
    made_spells (tick_reads.again x.to limits.to) _ x refl)

pub window_reads : Reads window_field window_text IsWindowWithinLimits
window_reads = record { takes = window_takes; again = window_again }

abbrev pub IsClaim : Claim → Type 0
IsClaim claim = IsFourBytes claim.zone × IsClaimWithinLimits claim

claim_takes : (old new : Unread) (x : Claim) → IsBytes old.left → claim_field old ≡ Ok (x, new) → Taken old.left (claim_text x) new.left × IsClaim x
unfolding claim_field
claim_takes old new x fits e =
    then_takes number_reads _ _ old (x, new) fits e (λ zone mid1 t1 l1 e1.
    then_takes tick_reads _ _ mid1 (x, new) t1.fits e1 (λ from mid2 t2 l2 e2.
    then_takes (later_reads from) _ _ mid2 (x, new) t2.fits e2 (λ to mid3 t3 l3 e3.
    made_takes old mid3 new (record { zone = zone; span = record { from = from; to = to } }) x claim_text IsClaim e3 (joined (joined t1 t2) t3) (l1, record { from = l2; to = l3.0; ordered = l3.1 }))))

claim_again : (x : Claim) → IsClaim x → Spells (claim_text x) claim_field x
unfolding claim_field
claim_again x limits =
    with_text (regroup3 (to_be_bytes w32 x.zone) (signed_bytes x.span.from) (signed_bytes x.span.to)) (
    then_spells (number_reads.again x.zone limits.0) _ (
    then_spells (tick_reads.again x.span.from limits.1.from) _ (
    made_spells ((later_reads x.span.from).again x.span.to (limits.1.to, limits.1.ordered)) _ x refl)))

pub claim_reads : Reads claim_field claim_text IsClaim
claim_reads = record { takes = claim_takes; again = claim_again }

-- ---- claims one behind another

next_zone_takes : (before : Claim) (old new : Unread) (x : ℕ) → IsBytes old.left → next_zone_field before old ≡ Ok (x, new) → Taken old.left (to_be_bytes w32 x) new.left × (IsFourBytes x × (nat_le before.zone x ≡ true))
unfolding next_zone_field
next_zone_takes before old new x fits e = (passing_reads number_reads (nat_le before.zone)).takes old new x fits e

next_zone_again : (before : Claim) (x : ℕ) → IsFourBytes x × (nat_le before.zone x ≡ true) → Spells (to_be_bytes w32 x) (next_zone_field before) x
unfolding next_zone_field
next_zone_again before x limits = (passing_reads number_reads (nat_le before.zone)).again x limits

pub next_zone_reads : (before : Claim) → Reads (next_zone_field before) (to_be_bytes w32) (λ zone. IsFourBytes zone × (before.zone ≤ zone))
next_zone_reads before =
    under_limits {Limits = λ zone. IsFourBytes zone × (nat_le before.zone zone ≡ true)} (record { takes = next_zone_takes before; again = next_zone_again before }) (λ zone. IsFourBytes zone × (before.zone ≤ zone))
    (λ zone l. (l.0, leb-true before.zone zone l.1))
    (λ zone l. (l.0, le-leb before.zone zone l.1))

begin_takes : (before : Claim) (zone : ℕ) (old new : Unread) (x : ℤ) → IsBytes old.left → begin_field before zone old ≡ Ok (x, new) → Taken old.left (signed_bytes x) new.left × (FitsSigned w64 x × (is_behind before zone x ≡ true))
unfolding begin_field
begin_takes before zone old new x fits e = (passing_reads signed_reads (is_behind before zone)).takes old new x fits e

begin_again : (before : Claim) (zone : ℕ) (x : ℤ) → FitsSigned w64 x × (is_behind before zone x ≡ true) → Spells (signed_bytes x) (begin_field before zone) x
unfolding begin_field
begin_again before zone x limits = (passing_reads signed_reads (is_behind before zone)).again x limits

-- on a greater zone, or behind the end
abbrev pub IsBehind : Claim → ℕ → ℤ → Type 0
IsBehind before zone from = (before.zone < zone) ⊎ (before.span.to <ℤ from)

either_true : (a b : Bool) → (a || b) ≡ true → (a ≡ true) ⊎ (b ≡ true)
either_true true b e = inl refl
either_true false b e = inr e

or_left : (a b : Bool) → a ≡ true → (a || b) ≡ true
or_left a b e = rw e refl

or_right : (a b : Bool) → b ≡ true → (a || b) ≡ true
or_right true b e = refl
or_right false b e = e

pub behind_passes : (before : Claim) (zone : ℕ) (t : ℤ) → is_behind before zone t ≡ true → IsTick t × IsBehind before zone t
behind_passes before zone t e =
    let b = and_parts (is_tick t) (nat_lt before.zone zone || int_lt before.span.to t) e in (
      tick_passes t b.0,
      elim (either_true (nat_lt before.zone zone) (int_lt before.span.to t) b.1) [
        | inl lt ↦ inl (ltb-true before.zone zone lt)
        | inr later ↦ inr (grind (arith, ints, later))
      ],
    )

behind_either : (before : Claim) (zone : ℕ) (t : ℤ) → IsBehind before zone t → (nat_lt before.zone zone || int_lt before.span.to t) ≡ true
behind_either before zone t (inl lt) = or_left (nat_lt before.zone zone) (int_lt before.span.to t) (lt-ltb before.zone zone lt)
behind_either before zone t (inr later) = or_right (nat_lt before.zone zone) (int_lt before.span.to t) (grind (arith, ints, later))

pub behind_is : (before : Claim) (zone : ℕ) (t : ℤ) → IsTick t × IsBehind before zone t → is_behind before zone t ≡ true
behind_is before zone t h = let low = tick_is t h.0 in let high = behind_either before zone t h.1 in rw (low, high) refl

pub begin_reads : (before : Claim) (zone : ℕ) → Reads (begin_field before zone) signed_bytes (λ t. IsTick t × IsBehind before zone t)
begin_reads before zone =
    under_limits {Limits = λ t. FitsSigned w64 t × (is_behind before zone t ≡ true)} (record { takes = begin_takes before zone; again = begin_again before zone }) (λ t. IsTick t × IsBehind before zone t)
    (λ t l. behind_passes before zone t l.1)
    (λ t l. (tick_fits t l.0, behind_is before zone t l))

-- a claim behind another one
abbrev pub IsNextClaim : Claim → Claim → Type 0
IsNextClaim before claim = IsClaim claim × EndsBefore before claim

ends_before : (before claim : Claim) → before.zone ≤ claim.zone → IsBehind before claim.zone claim.span.from → EndsBefore before claim
ends_before before claim le (inl lt) = inl lt
ends_before before claim le (inr later) =
    elim (cases_lt before.zone claim.zone) [
      | inl lt ↦ inl lt
      | inr ge ↦ inr (omega (arith, le, ge), later)
    ]

pub zone_is : (before claim : Claim) → EndsBefore before claim → before.zone ≤ claim.zone
zone_is before claim (inl lt) = omega (arith, lt)
zone_is before claim (inr same) = omega (arith, same.0)

pub is_behind_it : (before claim : Claim) → EndsBefore before claim → IsBehind before claim.zone claim.span.from
is_behind_it before claim (inl lt) = inl lt
is_behind_it before claim (inr same) = inr same.1

next_claim_takes : (before : Claim) (old new : Unread) (x : Claim) → IsBytes old.left → next_claim_field before old ≡ Ok (x, new) → Taken old.left (claim_text x) new.left × IsNextClaim before x
unfolding next_claim_field
next_claim_takes before old new x fits e =
    then_takes (next_zone_reads before) _ _ old (x, new) fits e (λ zone mid1 t1 l1 e1.
    then_takes (begin_reads before zone) _ _ mid1 (x, new) t1.fits e1 (λ from mid2 t2 l2 e2.
    then_takes (later_reads from) _ _ mid2 (x, new) t2.fits e2 (λ to mid3 t3 l3 e3.
    let claim : Claim = record { zone = zone; span = record { from = from; to = to } } in
    made_takes old mid3 new claim x claim_text (IsNextClaim before) e3 (joined (joined t1 t2) t3) ((l1.0, record { from = l2.0; to = l3.0; ordered = l3.1 }), ends_before before claim l1.1 l2.1))))

next_claim_again : (before x : Claim) → IsNextClaim before x → Spells (claim_text x) (next_claim_field before) x
unfolding next_claim_field
next_claim_again before x limits =
    with_text (regroup3 (to_be_bytes w32 x.zone) (signed_bytes x.span.from) (signed_bytes x.span.to)) (
    then_spells ((next_zone_reads before).again x.zone (limits.0.0, zone_is before x limits.1)) _ (
    then_spells ((begin_reads before x.zone).again x.span.from (limits.0.1.from, is_behind_it before x limits.1)) _ (
    made_spells ((later_reads x.span.from).again x.span.to (limits.0.1.to, limits.0.1.ordered)) _ x refl)))

pub next_claim_reads : (before : Claim) → Reads (next_claim_field before) claim_text (IsNextClaim before)
next_claim_reads before = record { takes = next_claim_takes before; again = next_claim_again before }

-- each claim behind the one before
abbrev pub AreNext : Claim → List Claim → Type 0
AreNext before [] = Unit {0}
AreNext before (claim ∷ claims) = IsNextClaim before claim × AreNext claim claims

abbrev pub AreClaims : ℕ → Claim → List Claim → Type 0
AreClaims count before claims = (length claims ≡ count) × AreNext before claims

no_claims_again : (before : Claim) (x : List Claim) → AreClaims 0 before x → Spells (flat_map claim_text x) (done []) x
no_claims_again before [] limits = record { found = λ at rest. ap (λ (n : ℕ). Ok ([], record { at = n; left = rest })) (omega arith); short = λ at count lt. absurd (omega arith) }
no_claims_again before (y ∷ ys) limits = absurd (omega (arith, limits.0))

more_claims_again : (count : ℕ) (before : Claim) → ((first : Claim) → Reads (claims_field count first) (flat_map claim_text) (AreClaims count first)) → (x : List Claim) → AreClaims (suc count) before x → Spells (flat_map claim_text x) (claims_field (suc count) before) x
unfolding claims_field
more_claims_again count before others [] limits = absurd (omega (arith, limits.0))
more_claims_again count before others (y ∷ ys) limits =
    with_text (sym (flat_map-cons claim_text y ys)) (
    then_spells ((next_claim_reads before).again y limits.1.0) _ (
    made_spells ((others y).again ys (omega (arith, limits.0), limits.1.1)) _ (y ∷ ys) refl))

pub claims_read : (count : ℕ) (before : Claim) → Reads (claims_field count before) (flat_map claim_text) (AreClaims count before)
unfolding claims_field
claims_read zero before = record {
  takes = λ old new x fits e. made_takes old old new [] x (flat_map claim_text) (AreClaims 0 before) e (record { parts = refl; fits = fits }) (refl, tt);
  again = no_claims_again before;
}
claims_read (suc count) before = record {
  takes = λ old new x fits e.
      then_takes (next_claim_reads before) _ _ old (x, new) fits e (λ first mid1 t1 l1 e1.
      then_takes (claims_read count first) _ _ mid1 (x, new) t1.fits e1 (λ others mid2 t2 l2 e2.
      made_takes old mid2 new (first ∷ others) x (flat_map claim_text) (AreClaims (suc count) before) e2 (subst (λ (w : List ℕ). Taken old.left w mid2.left) (sym (flat_map-cons claim_text first others)) (joined t1 t2)) (ap suc l2.0, (l1, l2.1))));
  again = more_claims_again count before (λ first. claims_read count first);
}

-- ---- claims one behind another are apart

pub next_claims : (before : Claim) (claims : List Claim) → AreNext before claims → AllByRecursion IsClaim claims
next_claims before [] h = tt
next_claims before (claim ∷ claims) h = (h.0.0, next_claims claim claims h.1)

ends_long_before : (a b c : Claim) → EndsBefore a b → HasTicks b.span → EndsBefore b c → EndsBefore a c
ends_long_before a b c (inl p) t (inl q) = inl (omega (arith, p, q))
ends_long_before a b c (inl p) t (inr q) = inl (omega (arith, p, q.0))
ends_long_before a b c (inr p) t (inl q) = inl (omega (arith, p.0, q))
ends_long_before a b c (inr p) t (inr q) = inr (p.0 ∙ q.0, omega (arith, ints, p.1, t, q.1))

ends_before_all : (before claim : Claim) → EndsBefore before claim → HasTicks claim.span → (claims : List Claim) → AllByRecursion (EndsBefore claim) claims → AllByRecursion (EndsBefore before) claims
ends_before_all before claim e t [] h = tt
ends_before_all before claim e t (next ∷ claims) h = (ends_long_before before claim next e t h.0, ends_before_all before claim e t claims h.1)

before_next : (before : Claim) (claims : List Claim) → AreNext before claims → AllByRecursion (EndsBefore before) claims
before_next before [] h = tt
before_next before (claim ∷ claims) h = (h.0.1, ends_before_all before claim h.0.1 h.0.0.1.ordered claims (before_next claim claims h.1))

pub next_apart : (before : Claim) (claims : List Claim) → AreNext before claims → AllPairs EndsBefore claims
next_apart before [] h = λ i j d lt within. absurd (omega arith)
next_apart before (claim ∷ claims) h = AllPairs-cons EndsBefore claim claims (All-from_recursion (EndsBefore claim) claims (before_next claim claims h.1)) (next_apart claim claims h.1)

pub are_next : (before : Claim) (claims : List Claim) → All (EndsBefore before) claims → AllByRecursion IsClaim claims → AllPairs EndsBefore claims → AreNext before claims
are_next before [] first each apart = tt
are_next before (claim ∷ claims) first each apart = (
  (each.0, first 0 claim (omega arith)),
  are_next claim claims (λ k d lt. apart 0 (suc k) d (omega arith) (omega arith)) each.1 (λ i j d lt within. apart (suc i) (suc j) d (omega arith) (omega arith)),
)

pub all_behind : (claim : Claim) → IsClaimWithinLimits claim → EndsBefore before_all claim
all_behind claim h =
    elim (cases_lt 0 claim.zone) [
      | inl lt ↦ inl (omega (arith, lt))
      | inr le ↦ inr (omega (arith, le), omega (arith, ints, h.from.0))
    ]

abbrev pub IsStop : Stop → Type 0
IsStop stop = IsFourBytes stop.stop × (stop.dwell ≤ MAX_DWELL)

dwell_reads : Reads (limited_field 0 MAX_DWELL) (to_be_bytes w32) (λ n. (0 ≤ n) × (n ≤ MAX_DWELL))
dwell_reads = limited_reads 0 MAX_DWELL (omega arith)

stop_takes : (old new : Unread) (x : Stop) → IsBytes old.left → stop_field old ≡ Ok (x, new) → Taken old.left (stop_text x) new.left × IsStop x
unfolding stop_field
stop_takes old new x fits e =
    then_takes number_reads _ _ old (x, new) fits e (λ stop mid1 t1 l1 e1.
    then_takes dwell_reads _ _ mid1 (x, new) t1.fits e1 (λ dwell mid2 t2 l2 e2.
    made_takes old mid2 new (record { stop = stop; dwell = dwell }) x stop_text IsStop e2 (joined t1 t2) (l1, l2.1)))

stop_again : (x : Stop) → IsStop x → Spells (stop_text x) stop_field x
unfolding stop_field
stop_again x limits =
    then_spells (number_reads.again x.stop limits.0) _ (
    made_spells (dwell_reads.again x.dwell (omega arith, limits.1)) _ x refl)

pub stop_reads : Reads stop_field stop_text IsStop
stop_reads = record { takes = stop_takes; again = stop_again }

abbrev pub IsRun : Run → Type 0
IsRun run = IsFourBytes run.block × IsRunWithinLimits run

run_takes : (old new : Unread) (x : Run) → IsBytes old.left → run_field old ≡ Ok (x, new) → Taken old.left (run_text x) new.left × IsRun x
unfolding run_field
run_takes old new x fits e =
    then_takes number_reads _ _ old (x, new) fits e (λ block mid1 t1 l1 e1.
    then_takes tick_reads _ _ mid1 (x, new) t1.fits e1 (λ enter mid2 t2 l2 e2.
    then_takes tick_reads _ _ mid2 (x, new) t2.fits e2 (λ leave mid3 t3 l3 e3.
    then_takes flag_reads _ _ mid3 (x, new) t3.fits e3 (λ stops mid4 t4 l4 e4.
    made_takes old mid4 new (record { block = block; enter = enter; leave = leave; stops = stops }) x run_text IsRun e4 (joined (joined (joined t1 t2) t3) t4) (l1, record { enter = l2; leave = l3 })))))

run_again : (x : Run) → IsRun x → Spells (run_text x) run_field x
unfolding run_field
run_again x limits =
    with_text (regroup4 (to_be_bytes w32 x.block) (signed_bytes x.enter) (signed_bytes x.leave) (flag_byte x.stops ∷ [])) (
    then_spells (number_reads.again x.block limits.0) _ (
    then_spells (tick_reads.again x.enter limits.1.enter) _ (
    then_spells (tick_reads.again x.leave limits.1.leave) _ (
    made_spells (flag_reads.again x.stops tt) _ x refl))))

pub run_reads : Reads run_field run_text IsRun
run_reads = record { takes = run_takes; again = run_again }

-- ---- trains

pub train_name_reads : Reads (name_field MAX_TRAIN_NAME_BYTES is_utf8) name_text (IsNameOf MAX_TRAIN_NAME_BYTES is_utf8)
train_name_reads = name_reads MAX_TRAIN_NAME_BYTES is_utf8 (omega arith)

from_one : (most : ℕ) → most < 2 ^ 32 → Reads (limited_field 1 most) (to_be_bytes w32) (λ n. (1 ≤ n) × (n ≤ most))
from_one most lt = limited_reads 1 most lt

allowance_reads : Reads (limited_field 0 MAX_ALLOWANCE_PERCENT) (to_be_bytes w32) (λ n. (0 ≤ n) × (n ≤ MAX_ALLOWANCE_PERCENT))
allowance_reads = limited_reads 0 MAX_ALLOWANCE_PERCENT (omega arith)

train_takes : (old new : Unread) (x : Train) → IsBytes old.left → train_field old ≡ Ok (x, new) → Taken old.left (train_text x) new.left × IsTrainWithinLimits x
unfolding train_field
train_takes old new x fits e =
    then_takes train_name_reads _ _ old (x, new) fits e (λ name mid1 t1 l1 e1.
    then_takes (from_one MAX_TRAIN_LENGTH_M (omega arith)) _ _ mid1 (x, new) t1.fits e1 (λ length_m mid2 t2 l2 e2.
    then_takes (from_one MAX_SPEED_MM_S (omega arith)) _ _ mid2 (x, new) t2.fits e2 (λ speed mid3 t3 l3 e3.
    then_takes (from_one MAX_ACCEL_MM_S2 (omega arith)) _ _ mid3 (x, new) t3.fits e3 (λ accel mid4 t4 l4 e4.
    then_takes (from_one MAX_ACCEL_MM_S2 (omega arith)) _ _ mid4 (x, new) t4.fits e4 (λ brake mid5 t5 l5 e5.
    then_takes allowance_reads _ _ mid5 (x, new) t5.fits e5 (λ allowance mid6 t6 l6 e6.
    made_takes old mid6 new (record { name = name; length_m = length_m; speed = speed; accel = accel; brake = brake; allowance = allowance }) x train_text IsTrainWithinLimits e6 (joined (joined (joined (joined (joined t1 t2) t3) t4) t5) t6)
    (record { named = (l1.some, l1.count, IsUtf8-from_is_utf8 name l1.test_is); length_m = l2; speed = l3; accel = l4; brake = l5; allowance = l6.1 })))))))

train_again : (x : Train) → IsTrainWithinLimits x → Spells (train_text x) train_field x
unfolding train_field
train_again x limits =
    with_text (regroup6 (name_text x.name) (to_be_bytes w32 x.length_m) (to_be_bytes w32 x.speed) (to_be_bytes w32 x.accel) (to_be_bytes w32 x.brake) (to_be_bytes w32 x.allowance)) (
    then_spells (train_name_reads.again x.name (record { some = limits.named.0; count = limits.named.1; test_is = is_utf8-from_IsUtf8 x.name limits.named.2 })) _ (
    then_spells ((from_one MAX_TRAIN_LENGTH_M (omega arith)).again x.length_m limits.length_m) _ (
    then_spells ((from_one MAX_SPEED_MM_S (omega arith)).again x.speed limits.speed) _ (
    then_spells ((from_one MAX_ACCEL_MM_S2 (omega arith)).again x.accel limits.accel) _ (
    then_spells ((from_one MAX_ACCEL_MM_S2 (omega arith)).again x.brake limits.brake) _ (
    made_spells (allowance_reads.again x.allowance (omega arith, limits.allowance)) _ x refl))))))

pub train_reads : Reads train_field train_text IsTrainWithinLimits
train_reads = record { takes = train_takes; again = train_again }

-- ---- lists

-- so many elements, each within its limits
abbrev pub AreItems : {A : Type 0} → (A → Type 0) → ℕ → List A → Type 0
AreItems Limits count items = (length items ≡ count) × AllByRecursion Limits items

none_again : {A : Type 0} (text : A → List ℕ) (Limits : A → Type 0) (x : List A) → AreItems Limits 0 x → Spells (flat_map text x) (done []) x
none_again text Limits [] limits = record { found = λ at rest. ap (λ (n : ℕ). Ok ([], record { at = n; left = rest })) (omega arith); short = λ at count lt. absurd (omega arith) }
none_again text Limits (y ∷ ys) limits = absurd (omega (arith, limits.0))

more_again : {A : Type 0} (item : Reading A) (text : A → List ℕ) (Limits : A → Type 0) → Reads item text Limits → (count : ℕ) → Reads (items_field item count) (flat_map text) (AreItems Limits count)
    → (x : List A) → AreItems Limits (suc count) x → Spells (flat_map text x) (items_field item (suc count)) x
unfolding items_field
more_again item text Limits reads count others [] limits = absurd (omega (arith, limits.0))
more_again item text Limits reads count others (y ∷ ys) limits =
    with_text (sym (flat_map-cons text y ys)) (
    then_spells (reads.again y limits.1.0) _ (
    made_spells (others.again ys (omega (arith, limits.0), limits.1.1)) _ (y ∷ ys) refl))

pub items_read : {A : Type 0} (item : Reading A) (text : A → List ℕ) (Limits : A → Type 0) → Reads item text Limits → (count : ℕ) → Reads (items_field item count) (flat_map text) (AreItems Limits count)
unfolding items_field
items_read item text Limits reads zero = record {
  takes = λ old new x fits e. made_takes old old new [] x (flat_map text) (AreItems Limits 0) e (record { parts = refl; fits = fits }) (refl, tt);
  again = none_again text Limits;
}
items_read {A} item text Limits reads (suc count) = record {
  takes = λ old new x fits e.
      then_takes reads _ _ old (x, new) fits e (λ first mid1 t1 l1 e1.
      then_takes (items_read item text Limits reads count) _ _ mid1 (x, new) t1.fits e1 (λ others mid2 t2 l2 e2.
      made_takes old mid2 new (first ∷ others) x (flat_map text) (AreItems Limits (suc count)) e2 (subst (λ (w : List ℕ). Taken old.left w mid2.left) (sym (flat_map-cons text first others)) (joined t1 t2)) (ap suc l2.0, (l1, l2.1))));
  again = more_again item text Limits reads count (items_read item text Limits reads count);
}

-- a list of so many elements at least and at most
pub record IsListOf {A : Type 0} (least most : ℕ) (Limits : A → Type 0) (items : List A) : Type 0 where
  pub some : least ≤ length items
  pub count : length items ≤ most
  pub each : AllByRecursion Limits items

list_takes : {A : Type 0} (least most : ℕ) → most < 2 ^ 32 → (item : Reading A) (text : A → List ℕ) (Limits : A → Type 0) → Reads item text Limits → (old new : Unread) (x : List A) → IsBytes old.left → list_field least most item old ≡ Ok (x, new)
    → Taken old.left (list_text text x) new.left × IsListOf least most Limits x
unfolding list_field
list_takes least most lt item text Limits reads old new x fits e =
    then_takes (limited_reads least most lt) _ _ old (x, new) fits e (λ count mid t l e1.
    let second = (items_read item text Limits reads count).takes mid new x t.fits e1 in
    (subst (λ (n : ℕ). Taken old.left (to_be_bytes w32 n ++ flat_map text x) new.left) (sym second.1.0) (joined t second.0), record { some = omega (arith, l.0, second.1.0); count = omega (arith, l.1, second.1.0); each = second.1.1 }))

list_again : {A : Type 0} (least most : ℕ) → most < 2 ^ 32 → (item : Reading A) (text : A → List ℕ) (Limits : A → Type 0) → Reads item text Limits → (x : List A) → IsListOf least most Limits x → Spells (list_text text x) (list_field least most item) x
unfolding list_field
list_again least most lt item text Limits reads x limits =
    then_spells ((limited_reads least most lt).again (length x) (limits.some, limits.count)) _ ((items_read item text Limits reads (length x)).again x (refl, limits.each))

pub list_reads : {A : Type 0} (least most : ℕ) → most < 2 ^ 32 → (item : Reading A) (text : A → List ℕ) (Limits : A → Type 0) → Reads item text Limits → Reads (list_field least most item) (list_text text) (IsListOf least most Limits)
list_reads least most lt item text Limits reads = record { takes = list_takes least most lt item text Limits reads; again = list_again least most lt item text Limits reads }
