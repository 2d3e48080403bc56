-- What stays true where a train is shifted as far as an earlier one needs.
use Rattle.std.proofs.Common.{◌≡◌, ◌≢◌, ◌∙◌, ℕ, ◌+◌, ◌<◌, ◌≤◌, List, [], length, set, sym, subst, inl, inr, refl, arith, ap, length-set}
use Rattle.std.specs.Prelude.{ℤ, pos, neg_ℤ, ◌+ℤ◌, ◌<ℤ◌, ◌≤ℤ◌, Option, Some, None, Contains}
use Rattle.std.proofs.Math.Decide.{ℕ_discrete}
use Rattle.std.proofs.lemmas.Bool.{cases_order}
use Rattle.std.proofs.lemmas.Int.{ints}
use Rattle.std.proofs.lemmas.List.Elements.{All-contains}
use Rattle.std.proofs.lemmas.List.{get_or-set_same, get_or-set_other, get_or_past}
use Rattle.rail_types.specs.declared.paths.Claim.{Claim}
use Rattle.rail_types.specs.declared.entries.Owner.TheVariants.{Base}
use Rattle.rail_types.specs.declared.limits.TheConstants.{FAR_TICK}
use Rattle.capacity_406.specs.declared.trains.Occupied.{Occupied}
use Rattle.capacity_406.specs.declared.claims.Taken.{Taken}
use Rattle.capacity_406.specs.declared.places.Place.{Place}
use Rattle.capacity_406.specs.declared.places.Cause.{Cause}
use Rattle.capacity_406.specs.Trains.{Has, AreBeside}
use Rattle.capacity_406.specs.Compression.{IsCompression, shift_of}
use Rattle.capacity_406.specs.Inside.{AreBounds, AreShort, AreTaken, Clears, IsBehind, IsBehindIt, IsCaused, IsClear, IsHeld, IsRaised, Rise, place_at, taken_by}
use Rattle.capacity_406.proofs.Neighbours.{clears_in_any}

-- only a train has claims
pub has_below : (trains : List Occupied) (train : ℕ) (claim : Claim) → Has trains train claim → train < length trains
has_below trains train claim (k, below, is) = elim (cases_order train (length trains)) [
  | inl same ↦ absurd (none (omega arith))
  | inr apart ↦ elim apart [
    | inl within ↦ within
    | inr past ↦ absurd (none (omega arith))
  ]
] where
  none : length trains ≤ train → ⊥
  none past = let e = ap (λ (one : Occupied). length one.claims) (get_or_past trains train (record { owner = Base 0; claims = [] }) past) in omega (arith, e)

-- a claim that is taken is its train's
pub taken_has : (trains : List Occupied) (taken : List Taken) → AreTaken trains taken → (one : Taken) → Contains taken one → Has trains one.train one.claim
taken_has trains taken are one in' = All-contains (λ other. Has trains other.train other.claim) taken one are.had in'

-- what keeps a train still does where settled places stay
pub caused_still : (trains : List Occupied) (level : ℤ) (old new : List Place) → Rise level old new → (train : ℕ) (mine : Place) (cause : Option Cause) → IsCaused trains level old train mine cause → IsCaused trains level new train mine cause
caused_still trains level old new rise train mine None caused = caused
caused_still trains level old new rise train mine (Some cause) (held, settled) = subst (λ (theirs : Place). IsHeld trains train cause mine theirs × (level ≤ℤ theirs.shift)) (sym (rise.stay cause.train settled)) (held, settled)

-- so does a settled train's claim stay clear
pub clear_still : (taken : List Taken) (level : ℤ) (old new : List Place) → Rise level old new → (train : ℕ) (claim : Claim) → level ≤ℤ (place_at old train).shift → IsClear taken old train claim → IsClear taken new train claim
clear_still taken level old new rise train claim settled (None, next, clears) = (None, next, tt)
clear_still taken level old new rise train claim settled (Some one, next, clears) = (Some one, next, let same : (place_at new train).shift ≡ (place_at old train).shift = ap (λ (place : Place). place.shift) (rise.stay train settled) in let risen : (place_at old one.train).shift ≤ℤ (place_at new one.train).shift = rise.rise one.train in omega (arith, ints))

pub rise_none : (level : ℤ) (places : List Place) → Rise level places places
rise_none level places = record { counted = refl; rise = λ train. omega (arith, ints); stay = λ train settled. refl; below = λ train below. below }

pub rise_more : (level : ℤ) (old mid new : List Place) → Rise level old mid → Rise level mid new → Rise level old new
rise_more level old mid new first then = record {
  counted = then.counted ∙ first.counted;
  rise = λ train. let a = first.rise train in let b = then.rise train in omega (arith, ints);
  stay = λ train settled. then.stay train (let a = first.rise train in omega (arith, ints)) ∙ first.stay train settled;
  below = λ train below. then.below train (first.below train below);
}

module _ (trains : List Occupied) (beside : AreBeside trains) (level : ℤ) (old : List Place) (bounds : AreBounds trains level old) (i : ℕ) (a : Claim) (next : Taken) (has_a : Has trains i a) (has_b : Has trains next.train next.claim) (behind : IsBehind a next) (at_level : level ≡ (place_at old i).shift) where
  module _ (mine : Place) (is : IsBehindIt (taken_by i a) next (place_at old i) mine) (less : (place_at old next.train).shift <ℤ mine.shift) where
    new : List Place
    new = set old next.train mine

    mine_below : mine.shift ≤ℤ level
    mine_below = let touch = is.touch in let late = behind.1 in omega (arith, ints)

    by_train : (P : Place → Type 0) (train : ℕ) → (train ≡ next.train → P mine) → (train ≢ next.train → P (place_at old train)) → P (place_at new train)
    unfolding new
    by_train P train here there = elim (ℕ_discrete train next.train) [
      | yes same ↦ subst P (sym (ap (λ k. place_at new k) same ∙ get_or-set_same old next.train mine _ (let n = has_below trains next.train next.claim has_b in let e = bounds.counted in omega arith))) (here same)
      | no differ ↦ subst P (sym (get_or-set_other old next.train train mine _ differ)) (there differ)
    ]

    shift_at : (train : ℕ) → train ≡ next.train → (place_at old train).shift <ℤ mine.shift
    shift_at train same = subst (λ k. (place_at old k).shift <ℤ mine.shift) (sym same) less

    raised_rise : Rise level old new
    unfolding new
    raised_rise = record {
      counted = length-set old next.train mine;
      rise = λ train. by_train (λ place. (place_at old train).shift ≤ℤ place.shift) train (λ same. let h = shift_at train same in omega (arith, ints)) (λ differ. omega (arith, ints));
      stay = λ train settled. by_train (λ place. place ≡ place_at old train) train (λ same. let h = shift_at train same in let m = mine_below in absurd (omega (arith, ints))) (λ differ. refl);
      below = λ train below. by_train (λ place. place.shift ≤ℤ level) train (λ same. mine_below) (λ differ. below);
    }

    theirs : place_at new i ≡ place_at old i
    theirs = raised_rise.stay i (omega (arith, ints))

    held : (train : ℕ) → train ≡ next.train → IsCaused trains level new train mine mine.cause
    held train same = subst (λ cause. IsCaused trains level new train mine cause) (sym is.cause) (
      record {
        two = λ here.
            let h = shift_at train same in
            let e : (place_at old i).shift ≡ (place_at old train).shift = ap (λ k. (place_at old k).shift) here in
            let touch = is.touch in
            let late = behind.1 in
            omega (arith, ints);
        claim = subst (λ k. Has trains k next.claim) (sym same) has_b;
        earlier = a;
        has = has_a;
        zone = sym behind.0;
        touch = subst (λ (place : Place). a.span.to +ℤ place.shift ≡ next.claim.span.from +ℤ mine.shift) (sym theirs) is.touch;
        links = subst (λ (place : Place). mine.links ≡ place.links + 1) (sym theirs) is.links;
      },
      subst (λ (place : Place). level ≤ℤ place.shift) (sym theirs) (omega (arith, ints)),
    )

    raised_least : (others : List ℤ) → IsCompression trains others → mine.shift ≤ℤ shift_of others next.train
    raised_least others so =
        let far = clears_in_any trains beside others so i next.train a next.claim has_a has_b (sym behind.0) behind.1 in
        let near = bounds.least others so i (has_below trains i a has_a) in
        let touch = is.touch in
        omega (arith, ints)

    raised_bounds : AreBounds trains level new
    unfolding new
    raised_bounds = record {
      counted = length-set old next.train mine ∙ bounds.counted;
      least = λ others so train below. by_train (λ place. place.shift ≤ℤ shift_of others train) train (λ same. subst (λ k. mine.shift ≤ℤ shift_of others k) (sym same) (raised_least others so)) (λ differ. bounds.least others so train below);
      begun = λ start train claim is_start has. by_train (λ place. start ≤ℤ (claim.span.from +ℤ place.shift)) train (λ same. let h = shift_at train same in let b = bounds.begun start train claim is_start has in omega (arith, ints)) (λ differ. bounds.begun start train claim is_start has);
      near = λ train. by_train (λ place. neg_ℤ (FAR_TICK +ℤ FAR_TICK) ≤ℤ place.shift) train (λ same. let h = shift_at train same in let b = bounds.near train in omega (arith, ints)) (λ differ. bounds.near train);
      early = λ train. by_train (λ place. place.shift ≤ℤ pos 0) train (λ same. let h = mine_below in let b = bounds.early i in omega (arith, ints)) (λ differ. bounds.early train);
      caused = λ train below. by_train (λ place. IsCaused trains level new train place place.cause) train (held train) (λ differ. caused_still trains level old new raised_rise train (place_at old train) (place_at old train).cause (bounds.caused train below));
    }

    raised_clears : Clears new i a next.train next.claim
    raised_clears = by_train (λ place. (a.span.to +ℤ (place_at new i).shift) ≤ℤ (next.claim.span.from +ℤ place.shift)) next.train (λ same. let t : (place_at new i).shift ≡ (place_at old i).shift = ap (λ (place : Place). place.shift) theirs in let touch = is.touch in omega (arith, ints)) (λ differ. absurd (differ refl))

    raised_short : (most : ℕ) → (place_at old i).links < most → AreShort most old → AreShort most new
    raised_short most more short train = by_train (λ place. place.links ≤ most) train (λ same. let e = is.links in omega arith) (λ differ. short train)

  module _ (after : List Place) where
    pub bounds_raised : IsRaised (taken_by i a) next old after → AreBounds trains level after
    unfolding new
    bounds_raised (inl same) = subst (AreBounds trains level) (sym same.0) bounds
    bounds_raised (inr (mine, is, less, same)) = subst (AreBounds trains level) (sym same) (raised_bounds mine is less)

    pub rise_raised : IsRaised (taken_by i a) next old after → Rise level old after
    unfolding new
    rise_raised (inl same) = subst (Rise level old) (sym same.0) (rise_none level old)
    rise_raised (inr (mine, is, less, same)) = subst (Rise level old) (sym same) (raised_rise mine is less)

    pub clears_raised : IsRaised (taken_by i a) next old after → Clears after i a next.train next.claim
    unfolding new
    clears_raised (inl same) = subst (λ places. Clears places i a next.train next.claim) (sym same.0) same.1
    clears_raised (inr (mine, is, less, same)) = subst (λ places. Clears places i a next.train next.claim) (sym same) (raised_clears mine is less)

    pub short_raised : IsRaised (taken_by i a) next old after → (most : ℕ) → (place_at old i).links < most → AreShort most old → AreShort most after
    unfolding new
    short_raised (inl same) most more short = subst (AreShort most) (sym same.0) short
    short_raised (inr (mine, is, less, same)) most more short = subst (AreShort most) (sym same) (raised_short mine is less most more short)
