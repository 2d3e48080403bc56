-- Trains that are settled one after the other.
use Rattle.std.proofs.Common.{◌≡◌, ◌⊎◌, ◌∙◌, ℕ, ◌+◌, ◌-◌, ◌<◌, ◌≤◌, List, [], ◌∷◌, length, get_or, sym, subst, inl, inr, refl, arith, IsPermutation}
use Rattle.std.specs.Prelude.{ℤ, pos, neg_ℤ, ◌+ℤ◌, ◌-ℤ◌, ◌≤ℤ◌, Option, Some, None, All, Contains}
use Rattle.std.proofs.lemmas.Bool.{cases_order}
use Rattle.std.proofs.lemmas.Int.{ints}
use Rattle.std.proofs.lemmas.List.{get_or_past, get_or_default}
use Rattle.std.proofs.lemmas.List.Elements.{All-contains, All-cons, All-nil, All-tail, All-from_get_or, Contains-append_cases}
use Rattle.std.proofs.lemmas.List.Sorted.{All-permutation, Contains-permutation, length_permutation, IsPermutation-sym}
use Rattle.rail_types.specs.declared.paths.Claim.{Claim}
use Rattle.rail_types.specs.declared.limits.TheConstants.{FAR_TICK}
use Rattle.capacity_406.specs.declared.trains.Occupied.{Occupied}
use Rattle.capacity_406.specs.declared.claims.Taken.{Taken}
use Rattle.capacity_406.specs.declared.places.Place.{Place}
use Rattle.capacity_406.specs.declared.places.Cause.{Cause}
use Rattle.capacity_406.specs.Trains.{AreBeside, BeginsFirst, Has, IsFirstClaim, IsStart, claims_of}
use Rattle.rail_types.specs.Limits.{IsNear}
use Rattle.capacity_406.specs.Compression.{IsCompression, shift_of}
use Rattle.capacity_406.specs.Inside.{AreBounds, AreClear, AreFirsts, AreLeast, AreStarted, IsCaused, IsCount, IsSettling, KeepsShort, Rise, first_of, place_at}
use Rattle.capacity_406.proofs.Earliest.{earliest_has, earliest_starts, no_claim_earlier, not_later}
use Rattle.capacity_406.proofs.Raising.{clear_still, has_below}

-- what is settled at a level is settled at a lower one
lower_cause : (trains : List Occupied) (level lower : ℤ) (places : List Place) → lower ≤ℤ level → (train : ℕ) (mine : Place) (cause : Option Cause) → IsCaused trains level places train mine cause → IsCaused trains lower places train mine cause
lower_cause trains level lower places le train mine None caused = caused
lower_cause trains level lower places le train mine (Some cause) (held, settled) = (held, omega (arith, ints))

pub lower_bounds : (trains : List Occupied) (level lower : ℤ) (places : List Place) → lower ≤ℤ level → AreBounds trains level places → AreBounds trains lower places
lower_bounds trains level lower places le bounds = record {
  counted = bounds.counted;
  least = bounds.least;
  begun = bounds.begun;
  near = bounds.near;
  early = bounds.early;
  caused = λ train below. lower_cause trains level lower places le train (place_at places train) (place_at places train).cause (bounds.caused train below);
}

module _ (trains : List Occupied) (taken : List Taken) (waiting rest : List ℕ) (train : ℕ) (old : List Place) (so : IsSettling trains taken waiting old) (gone : IsPermutation waiting (train ∷ rest)) where
  pub waits : Contains waiting train
  waits = Contains-permutation _ _ train (IsPermutation-sym _ _ gone) (0, omega arith, refl)

  pub next_below : train < length trains
  next_below = All-contains (λ other. other < length trains) waiting train so.trains_wait waits

  pub next_bounds : AreBounds trains (place_at old train).shift old
  next_bounds = lower_bounds trains so.level (place_at old train).shift old (All-contains (λ other. (place_at old other).shift ≤ℤ so.level) waiting train so.below waits) so.bounds

  one_fewer : length waiting ≡ length rest + 1
  one_fewer = let e = length_permutation waiting (train ∷ rest) gone in omega (arith, e)

  pub next_short : (place_at old train).links + 1 ≤ length trains
  next_short = let short = so.short train in let few = so.few in let e = one_fewer in omega arith

  module _ (new : List Place) (last : All (λ other. (place_at old other).shift ≤ℤ (place_at old train).shift) waiting) (bounds : AreBounds trains (place_at old train).shift new) (rise : Rise (place_at old train).shift old new) (clear : AreClear trains taken new train) (short : KeepsShort (place_at old train).links old new) where
    settled_still : (other : ℕ) → (so.level ≤ℤ (place_at old other).shift) × AreClear trains taken old other → ((place_at old train).shift ≤ℤ (place_at new other).shift) × AreClear trains taken new other
    settled_still other (settled, all) =
        let low = All-contains (λ one. (place_at old one).shift ≤ℤ so.level) waiting train so.below waits in
        let up = rise.rise other in
        (omega (arith, ints), λ claim has. clear_still taken (place_at old train).shift old new rise other claim (omega (arith, ints)) (all claim has))

    other_still : (other : ℕ) → Contains waiting other ⊎ ((so.level ≤ℤ (place_at old other).shift) × AreClear trains taken old other) → Contains rest other ⊎ (((place_at old train).shift ≤ℤ (place_at new other).shift) × AreClear trains taken new other)
    other_still other (inr settled) = inr (settled_still other settled)
    other_still other (inl waits_too) = elim (Contains-append_cases (train ∷ []) rest other (Contains-permutation _ _ other gone waits_too)) [
      | inl here ↦
          let same : train ≡ other = All-contains (λ one. train ≡ one) (train ∷ []) other (All-cons (λ one. train ≡ one) train [] refl (All-nil (λ one. train ≡ one))) here in
          inr (subst (λ one. ((place_at old train).shift ≤ℤ (place_at new one).shift) × AreClear trains taken new one) same (rise.rise train, clear))
      | inr later ↦ inl later
    ]

    pub settled_next : IsSettling trains taken rest new
    settled_next = record {
      level = (place_at old train).shift;
      bounds = bounds;
      trains_wait = All-tail (λ other. other < length trains) train rest (All-permutation (λ other. other < length trains) waiting (train ∷ rest) gone so.trains_wait);
      below = λ k d within. rise.below (get_or rest k d) (All-tail (λ other. (place_at old other).shift ≤ℤ (place_at old train).shift) train rest (All-permutation (λ other. (place_at old other).shift ≤ℤ (place_at old train).shift) waiting (train ∷ rest) gone last) k d within);
      others = λ other below. other_still other (so.others other below);
      few = let e = one_fewer in let few = so.few in omega arith;
      short = short (length trains - length rest) (let e = one_fewer in let few = so.few in let mine = so.short train in omega arith) (λ other. let e = one_fewer in let few = so.few in let theirs = so.short other in omega arith);
    }

module _ (trains : List Occupied) (beside : AreBeside trains) (firsts : List Claim) (are : AreFirsts trains firsts) where
  pub first_has : (train : ℕ) → train < length trains → Has trains train (first_of firsts train)
  first_has train below = (are.first train below).0

  pub firsts_near : All (λ first. IsNear first.span.from) firsts
  firsts_near train d within =
      let below : train < length trains = let e = are.counted in omega arith in
      subst (λ (first : Claim). IsNear first.span.from) (get_or_default firsts train _ d within) (beside.sound train (first_of firsts train) (first_has train below)).from

-- at first each train waits, begun with the earliest claim
module _ (trains : List Occupied) (beside : AreBeside trains) (firsts : List Claim) (are : AreFirsts trains firsts) (earliest : Claim) (is : IsFirstClaim firsts earliest) where
  pub earliest_near : IsNear earliest.span.from
  earliest_near = let one = earliest_has trains firsts are earliest is in (beside.sound one.0 earliest one.1).from

  module _ (places : List Place) (started : AreStarted earliest firsts places) where
    by_place : (P : Place → Type 0) (train : ℕ) → (train < length trains → P (record { shift = earliest.span.from -ℤ (first_of firsts train).span.from; links = 0; cause = None })) → (length trains ≤ train → P (record { shift = pos 0; links = 0; cause = None })) → P (place_at places train)
    by_place P train within past = elim (cases_order train (length trains)) [
      | inl same ↦ subst P (sym (get_or_past places train _ (let e = are.counted in let f = started.counted in omega arith))) (past (omega arith))
      | inr apart ↦ elim apart [
        | inl below ↦ subst P (sym (started.start train (let e = are.counted in omega arith))) (within below)
        | inr behind ↦ subst P (sym (get_or_past places train _ (let e = are.counted in let f = started.counted in omega arith))) (past (omega arith))
      ]
    ]

    not_before : (train : ℕ) → train < length trains → earliest.span.from ≤ℤ (first_of firsts train).span.from
    not_before train below = no_claim_earlier trains firsts are earliest is train (first_of firsts train) (first_has trains beside firsts are train below)

    least : (others : List ℤ) → IsCompression trains others → (train : ℕ) → train < length trains → (place_at places train).shift ≤ℤ shift_of others train
    least others so train below = by_place (λ place. place.shift ≤ℤ shift_of others train) train (λ below. let b = so.begun earliest.span.from train (first_of firsts train) (earliest_starts trains firsts are earliest is) (first_has trains beside firsts are train below) in omega (arith, ints)) (λ past. absurd (omega arith))

    begun : (start : ℤ) (train : ℕ) (claim : Claim) → IsStart trains start → Has trains train claim → start ≤ℤ (claim.span.from +ℤ (place_at places train).shift)
    begun start train claim starts has =
        let below = has_below trains train claim has in
        let one = earliest_has trains firsts are earliest is in
        let early = starts.earliest one.0 earliest one.1 in
        let first = not_later (first_of firsts train) claim (All-contains (BeginsFirst (first_of firsts train)) (claims_of trains train) claim (are.first train below).1 has) in
        by_place (λ place. start ≤ℤ (claim.span.from +ℤ place.shift)) train (λ within. omega (arith, ints)) (λ past. absurd (omega arith))

    caused : (level : ℤ) (train : ℕ) → train < length trains → IsCaused trains level places train (place_at places train) (place_at places train).cause
    caused level train below = by_place (λ place. IsCaused trains level places train place place.cause) train (λ within. (first_of firsts train, are.first train below, subst (IsStart trains) (omega (arith, ints)) (earliest_starts trains firsts are earliest is))) (λ past. absurd (omega arith))

    start_bounds : AreBounds trains (pos 0) places
    start_bounds = record {
      counted = started.counted ∙ are.counted;
      least = least;
      begun = begun;
      near = λ train. by_place (λ place. neg_ℤ (FAR_TICK +ℤ FAR_TICK) ≤ℤ place.shift) train (λ below. let a = earliest_near in let b = (beside.sound train (first_of firsts train) (first_has trains beside firsts are train below)).from in omega (arith, ints)) (λ past. omega (arith, ints));
      early = λ train. by_place (λ place. place.shift ≤ℤ pos 0) train (λ below. let b = not_before train below in omega (arith, ints)) (λ past. omega (arith, ints));
      caused = caused (pos 0);
    }

    pub settling_at_first : (taken : List Taken) (waiting : List ℕ) → IsCount (length trains) waiting → IsSettling trains taken waiting places
    settling_at_first taken waiting count = record {
      level = pos 0;
      bounds = start_bounds;
      trains_wait = All-from_get_or (λ train. train < length trains) waiting 0 (λ k within. let e = count.each k (let f = count.counted in omega arith) in let f = count.counted in omega arith);
      below = λ k d within. start_bounds.early (get_or waiting k d);
      others = λ train below. inl (train, (let f = count.counted in omega arith), get_or_default waiting train train 0 (let f = count.counted in omega arith) ∙ count.each train below);
      few = let f = count.counted in omega arith;
      short = λ train. by_place (λ place. place.links ≤ length trains - length waiting) train (λ below. omega arith) (λ past. omega arith);
    }

-- when no train waits all are settled
pub all_settled : (trains : List Occupied) (taken : List Taken) (waiting : List ℕ) (places : List Place) → IsSettling trains taken waiting places → length waiting ≡ 0 → AreLeast trains taken places
all_settled trains taken waiting places so none = record {
  level = so.level;
  bounds = so.bounds;
  clear = λ train below. elim (so.others train below) [
    | inl (k, within, same) ↦ absurd (omega arith)
    | inr settled ↦ settled.1
  ];
}
