-- When a train that stands can go on.
use Rattle.std.proofs.Common.{◌≡◌, ℕ, List, true, false, sym, subst, ap, ◌∙◌, inl, inr, arith}
use Rattle.std.specs.Prelude.{ℤ, pos, ◌+ℤ◌, ◌<ℤ◌, ◌≤ℤ◌, IsTrue}
use Rattle.std.proofs.lemmas.Int.{ints, clamps, by_lt_z}
use Rattle.std.specs.Int.{int_min}
use Rattle.rail_types.specs.declared.paths.Claim.{Claim}
use Rattle.rail_types.specs.declared.paths.Window.{Window}
use Rattle.label_search.specs.declared.plans.Place.{Place}
use Rattle.label_search.specs.declared.plans.Plan.{Plan}
use Rattle.label_search.specs.declared.labels.Label.{Label}
use Rattle.label_search.specs.declared.labels.Front.{Front}
use Rattle.label_search.specs.declared.searches.Search.{Search}
use Rattle.label_search.specs.Free.{Book, Fits}
use Rattle.free_windows.specs.Free.{Holds}
use Rattle.free_windows.specs.Starts.{IsNextWindow}
use Rattle.label_search.specs.Paths.{place_at, WaitFits}
use Rattle.label_search.specs.Labels.{IsReached}
use Rattle.label_search.specs.Search.{IsWaited, IsFurther, AreWaitsExplored, came_at}
use Rattle.label_search.proofs.Covers.{reached_more}

-- without a dwell it goes on when it comes
pub waited_not : (plan : Plan) (book : Book) (labels : List Label) (place : ℕ) (arrivals : Window) → IsTrue (place_at plan place).standing → (place_at plan place).dwell ≡ pos 0 → ((tick : ℤ) → Holds arrivals tick → IsReached labels place false tick) → (tick : ℤ) → Holds arrivals tick → IsWaited plan book labels arrivals place tick
waited_not plan book labels place arrivals standing none reached tick held =
    let same : came_at plan place arrivals tick ≡ tick = let high = held.1 in omega (arith, ints, clamps) in
    record {
      standing = standing;
      came = subst (IsReached labels place false) (sym same) (reached tick held);
      fits = λ x low high. absurd (omega (arith, ints));
    }

-- what is known of the waits from ticks before `next`, but for those that take no time
abbrev pub AreWaitsExploredTo : Plan → Book → Front → Search → ℤ → Type 0
AreWaitsExploredTo plan book front search next = (tick enter : ℤ) → Holds front.ticks tick → tick <ℤ next → (tick +ℤ (place_at plan front.place).dwell) ≤ℤ enter → enter ≤ℤ plan.horizon → tick <ℤ enter → WaitFits book (place_at plan front.place) tick enter → IsReached search.labels.labels front.place true enter

module _ (plan : Plan) (book : Book) (front : Front) (place : Place) (is : place ≡ place_at plan front.place) (waits : List Claim) (same : waits ≡ place.waits) (rest : Window) (low : pos 0 ≤ℤ front.ticks.from) (from : front.ticks.from ≤ℤ rest.from) (to : rest.to ≡ plan.horizon) (positive : pos 0 ≤ℤ (place_at plan front.place).dwell) where
  waits_of : waits ≡ (place_at plan front.place).waits
  waits_of = same ∙ ap (λ p. p.waits) is

  dwell_of : place.dwell ≡ (place_at plan front.place).dwell
  dwell_of = ap (λ p. p.dwell) is

  module _ (free : Window) (next : IsNextWindow (Fits book waits) rest free) (ticks : Window) (first : ticks.from ≡ (free.from +ℤ place.dwell)) (last : ticks.to ≡ int_min (free.to +ℤ pos 1) plan.horizon) where
    pub ready_within : (pos 0 ≤ℤ ticks.from) × (ticks.to ≤ℤ plan.horizon)
    ready_within = let begins = next.from in let dwell = dwell_of in (omega (arith, ints), omega (arith, ints, clamps))

    pub waited : (labels : List Label) → IsTrue (place_at plan front.place).standing → free.from ≤ℤ front.ticks.to → ((tick : ℤ) → Holds front.ticks tick → IsReached labels front.place false tick) → (enter : ℤ) → Holds ticks enter → IsWaited plan book labels front.ticks front.place enter
    waited labels standing early reached enter held =
        let begins = next.from in let dwell = dwell_of in let soon = held.0 in let late = held.1 in
        record {
          standing = standing;
          came = reached _ (omega (arith, ints, clamps), omega (arith, ints, clamps));
          fits = λ x after before. subst (λ claims. Fits book claims x) waits_of (next.so x (omega (arith, ints, clamps), omega (arith, ints, clamps)));
        }

    pub waits_more : (old new : Search) → IsFurther old new → AreWaitsExploredTo plan book front old rest.from → ((tick : ℤ) → Holds ticks tick → IsReached new.labels.labels front.place true tick) → (after : ℤ) → after ≡ (free.to +ℤ pos 1) → AreWaitsExploredTo plan book front new after
    waits_more old new further before here after after_is tick enter held early dwelt short waits fits = by_lt_z tick rest.from
        (λ ahead. reached_more (λ one. Unit {0}) old.labels.labels new.labels.labels front.place true enter further.grown (before tick enter held ahead dwelt short waits fits))
        (λ behind. by_lt_z tick free.from
        (λ blocked. absurd (next.before tick behind blocked (subst (λ claims. Fits book claims tick) (sym waits_of) (fits tick (omega (arith, ints)) waits))))
        (λ begun. by_lt_z (free.to +ℤ pos 1) enter
        (λ beyond. elim next.ends [
          | inl whole ↦ absurd (omega (arith, ints))
          | inr stops ↦ absurd (stops (subst (λ claims. Fits book claims (free.to +ℤ pos 1)) (sym waits_of) (fits (free.to +ℤ pos 1) (omega (arith, ints)) beyond)))
        ])
        (λ within. let dwell = dwell_of in here enter (omega (arith, ints), omega (arith, ints, clamps)))))

  -- where no tick of arrival is free that is left, all waits are known
  pub waits_all : (search : Search) → AreWaitsExploredTo plan book front search rest.from → ((place_at plan front.place).dwell ≡ pos 0 → (tick : ℤ) → Holds front.ticks tick → IsReached search.labels.labels front.place true tick) → ((tick : ℤ) → Holds front.ticks tick → rest.from ≤ℤ tick → tick ≤ℤ rest.to → ¬ Fits book waits tick) → (tick : ℤ) → Holds front.ticks tick → AreWaitsExplored plan book front.place tick search
  waits_all search explored at_once none tick held enter dwelt short fits = by_lt_z tick enter
      (λ waits. by_lt_z tick rest.from
      (λ ahead. explored tick enter held ahead dwelt short waits fits)
      (λ behind. absurd (none tick held behind (omega (arith, ints)) (subst (λ claims. Fits book claims tick) (sym waits_of) (fits tick (omega (arith, ints)) waits)))))
      (λ same_tick.
      let equal : tick ≡ enter = omega (arith, ints) in
      subst (IsReached search.labels.labels front.place true) equal (at_once (omega (arith, ints)) tick held))
