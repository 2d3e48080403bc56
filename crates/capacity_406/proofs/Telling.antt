-- Trains that are told, and the time that they occupy.
use Rattle.std.proofs.Common.{◌≡◌, ◌≢◌, ◌∙◌, ℕ, ◌+◌, ◌<◌, List, [], ◌∷◌, length, refl, inl, inr, arith, sym, subst, ap, All}
use Rattle.std.specs.Prelude.{ℤ, ◌<ℤ◌, ◌≤ℤ◌}
use Rattle.std.proofs.lemmas.Int.{ints, by_lt_z}
use Rattle.std.proofs.lemmas.List.{get_or_default}
use Rattle.std.proofs.lemmas.List.Elements.{All-contains, All-cons, All-nil}
use Rattle.rail_types.specs.declared.paths.Claim.{Claim}
use Rattle.rail_types.specs.Limits.{IsNearSpan}
use Rattle.capacity_406.specs.declared.reports.Told.{Told}
use Rattle.capacity_406.specs.declared.trains.Link.{Link}
use Rattle.capacity_406.specs.declared.trains.Occupied.{Occupied}
use Rattle.capacity_406.specs.Chain.{IsChain, LeadOn}
use Rattle.capacity_406.specs.Compression.{IsCompression, after}
use Rattle.capacity_406.specs.Inside.{AreFirsts, first_of}
use Rattle.capacity_406.specs.Report.{AreTold, IsOccupiedTime}
use Rattle.capacity_406.specs.Telling.{AreToldBy, IsTimeBetween, IsTimeOf, ends_at}
use Rattle.capacity_406.specs.Trains.{AreBeside, AreOwnApart, BeginsFirst, IsFirstClaim, claims_of}
use Rattle.capacity_406.proofs.Earliest.{earliest_starts, first_begin_at_once}
use Rattle.capacity_406.proofs.Raising.{has_below}
use Rattle.capacity_406.proofs.Settling.{first_has}

made : ℕ → ℤ → ℤ → Claim
made zone from to = record { zone = zone; span = record { from = from; to = to } }

same_claim : (a b : Claim) → a.zone ≡ b.zone → a.span.from ≡ b.span.from → a.span.to ≡ b.span.to → a ≡ b
unfolding made
same_claim a b zone from to = ap (λ z. made z a.span.from a.span.to) zone ∙ (ap (λ f. made b.zone f a.span.to) from ∙ ap (λ t. made b.zone b.span.from t) to)

no_higher : (a b : Claim) → BeginsFirst a b → a.span.from ≡ b.span.from → a.zone < b.zone + 1
no_higher a b (inl early) same = absurd (omega (arith, ints))
no_higher a b (inr zones) same = let le = zones.1 in omega arith

-- a train has one first claim
module _ (trains : List Occupied) (beside : AreBeside trains) (own : AreOwnApart trains) (train : ℕ) (a b : Claim) (first : IsFirstClaim (claims_of trains train) a) (also : IsFirstClaim (claims_of trains train) b) where
  from : a.span.from ≡ b.span.from
  from = first_begin_at_once (claims_of trains train) a b first also

  zone : a.zone ≡ b.zone
  zone =
      let ab = no_higher a b (All-contains (BeginsFirst a) (claims_of trains train) b first.1 also.0) from in
      let ba = no_higher b a (All-contains (BeginsFirst b) (claims_of trains train) a also.1 first.0) (sym from) in
      omega arith

  clash : a.span.to ≢ b.span.to → ⊥
  clash differ =
      let ticks = (beside.sound train a first.0).ticks in
      let ticks_also = (beside.sound train b also.0).ticks in
      let e = from in
      own train a b first.0 also.0 (λ same. differ (ap (λ (one : Claim). one.span.to) same)) (zone, (omega (arith, ints), omega (arith, ints)))

  pub one_first : a ≡ b
  one_first = by_lt_z a.span.to b.span.to
      (λ less. absurd (clash (λ same. absurd (omega (arith, ints)))))
      (λ late. by_lt_z b.span.to a.span.to
      (λ less. absurd (clash (λ same. absurd (omega (arith, ints)))))
      (λ most. same_claim a b zone from (omega (arith, ints))))

module _ (trains : List Occupied) (beside : AreBeside trains) (firsts : List Claim) (are : AreFirsts trains firsts) where
  pub spans_near : All (λ first. IsNearSpan first.span) firsts
  spans_near train d within =
      let below : train < length trains = let e = are.counted in omega arith in
      let sound = beside.sound train (first_of firsts train) (first_has trains beside firsts are train below) in
      subst (λ (first : Claim). IsNearSpan first.span) (get_or_default firsts train _ d within) (sound.from, sound.to)

  -- each first claim ends later than the earliest begins
  pub ends_late : (shifts : List ℤ) → IsCompression trains shifts → (train : ℕ) (earliest : Claim) → train < length firsts → IsFirstClaim firsts earliest → earliest.span.from <ℤ ends_at firsts shifts train
  ends_late shifts so train earliest within is =
      let below : train < length trains = let e = are.counted in omega arith in
      let has = first_has trains beside firsts are train below in
      let ticks = (beside.sound train (first_of firsts train) has).ticks in
      let begun = so.begun earliest.span.from train (first_of firsts train) (earliest_starts trains firsts are earliest is) has in
      omega (arith, ints)

  pub told_so : (shifts : List ℤ) (told : List Told) → AreToldBy trains firsts shifts told → AreTold trains shifts told
  told_so shifts told so = record {
    counted = so.counted;
    each = λ train below. record {
      owner = ap (λ (one : Told). one.owner) (so.each train below);
      begins = (first_of firsts train, are.first train below, sym (ap (λ (one : Told). one.begin) (so.each train below)));
      shift = ap (λ (one : Told). one.shift) (so.each train below);
    };
  }

pub time_so : (trains : List Occupied) → AreBeside trains → AreOwnApart trains → (firsts : List Claim) → AreFirsts trains firsts → (shifts : List ℤ) (occupied : ℕ) → IsTimeOf firsts shifts occupied → IsOccupiedTime trains shifts occupied
time_so [] beside own [] are shifts occupied time = time
time_so [] beside own (first ∷ more) are shifts occupied time = absurd (let e = are.counted in omega arith)
time_so (train ∷ rest) beside own [] are shifts occupied time = absurd (let e = are.counted in omega arith)
time_so (train ∷ rest) beside own (first ∷ more) are shifts occupied time =
    let counted : length (first ∷ more) ≡ length (train ∷ rest) = are.counted in
    record {
      start = time.earliest.span.from;
      end = ends_at (first ∷ more) shifts time.last;
      starts = earliest_starts (train ∷ rest) (first ∷ more) are time.earliest time.is_first;
      ends = record {
        ends = (time.last, first_of (first ∷ more) time.last, are.first time.last (subst (λ n. time.last < n) counted time.below), refl);
        latest = λ number claim is.
            let below = has_below (train ∷ rest) number claim is.0 in
            let same = one_first (train ∷ rest) beside own number (first_of (first ∷ more) number) claim (are.first number below) is in
            subst (λ (one : Claim). (after shifts number one).to ≤ℤ ends_at (first ∷ more) shifts time.last) same (time.latest number (subst (λ n. number < n) (sym counted) below));
      };
      time = time.time;
    }

-- each link is of a train
module _ (trains : List Occupied) (shifts : List ℤ) where
  leads_trains : (train : ℕ) (links : List Link) → LeadOn trains shifts train links → All (λ link. link.train < length trains) links
  leads_trains train [] ends = All-nil (λ link. link.train < length trains)
  leads_trains train (next ∷ rest) (link, leads) = All-cons (λ link. link.train < length trains) next rest (has_below trains next.train link.claim link.names.has) (leads_trains next.train rest leads)

  pub chain_trains : (links : List Link) → IsChain trains shifts links → All (λ link. link.train < length trains) links
  chain_trains [] none = All-nil (λ link. link.train < length trains)
  chain_trains (first ∷ rest) ((claim, names, is, starts), leads) = All-cons (λ link. link.train < length trains) first rest (has_below trains first.train claim names.has) (leads_trains first.train rest leads)

pub time_of_none : (firsts : List Claim) (shifts : List ℤ) → length firsts ≡ 0 → IsTimeOf firsts shifts 0
time_of_none [] shifts none = refl
time_of_none (first ∷ rest) shifts none = absurd (omega arith)

pub time_of_any : (firsts : List Claim) (shifts : List ℤ) (occupied : ℕ) → IsTimeBetween firsts shifts occupied → IsTimeOf firsts shifts occupied
time_of_any [] shifts occupied time = absurd (let below = time.below in omega arith)
time_of_any (first ∷ rest) shifts occupied time = time
