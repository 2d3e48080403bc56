-- Where all is in hand and no work is due before a tick, the arrivals are closed below it.
use Rattle.std.proofs.Common.{◌≡◌, ℕ, ◌<◌, length, Bool, true, false, sym, subst, ap, ◌∙◌, inl, inr, refl, arith}
use Rattle.std.specs.Prelude.{ℤ, pos, ◌+ℤ◌, ◌<ℤ◌, ◌≤ℤ◌, IsTrue}
use Rattle.std.proofs.lemmas.Bool.{cases_Bool}
use Rattle.std.proofs.lemmas.Int.{ints}
use Rattle.std.proofs.lemmas.List.{get_or_default}
use Rattle.label_search.specs.declared.plans.Target.{Target}
use Rattle.label_search.specs.declared.plans.Target.TheVariants.{Place as To, End}
use Rattle.label_search.specs.declared.plans.Plan.{Plan}
use Rattle.label_search.specs.declared.plans.Trip.{Trip}
use Rattle.label_search.specs.declared.plans.Step.{Step}
use Rattle.label_search.specs.declared.limits.Limits.{Limits}
use Rattle.label_search.specs.declared.searches.Search.{Search}
use Rattle.label_search.specs.declared.queues.Work.{Work}
use Rattle.label_search.specs.Queues.{Pending, AreDueFrom}
use Rattle.label_search.specs.Free.{Book}
use Rattle.free_windows.specs.Free.{Holds}
use Rattle.label_search.specs.Plans.{IsPlan}
use Rattle.label_search.specs.Paths.{place_at, move_at, target_of, leave_of, WaitFits}
use Rattle.label_search.specs.Closed.{IsClosedBelow, IsFreeMove, Admits}
use Rattle.label_search.specs.Limits.{IsBelow, IsConsistent, ahead_at, least_wait}
use Rattle.label_search.specs.Labels.{IsReached, label_at}
use Rattle.label_search.specs.Search.{IsSound, IsStarted, IsBeaten, IsAdmitted, IsMoveExplored, step_at}
use Rattle.label_search.specs.Pending.{LooksAtMove, LooksAtWait, IsDueBy, IsInHand, AreInHand}
use Rattle.label_search.proofs.Exclusion.{waited}
use Rattle.label_search.proofs.Growth.{tick_within}

module _ (plan : Plan) (trip aim : Trip) (book : Book) (is : IsPlan plan book) (search : Search) (sound : IsSound plan trip book search.labels.labels) (depart : aim.depart ≡ trip.depart) (started : IsStarted plan trip search) (queue : Pending) (in_hand : AreInHand plan trip book search queue) (stop : ℤ) (due : AreDueFrom queue stop) (early : stop ≤ℤ search.limits.below) (consistent : IsConsistent plan search.limits.ahead)
    (aimed : (leave : ℤ) → Holds aim.arrive leave → Holds trip.arrive leave × ¬ IsBeaten search.best leave) where
  abbrev IsArrived : ℕ → ℤ → Type 0
  IsArrived place tick = IsReached search.labels.labels place false tick

  abbrev lower : Limits
  lower = record { ahead = search.limits.ahead; below = stop }

  admits : (target : Target) (leave : ℤ) → IsAdmitted trip search target leave → Admits aim IsArrived target leave
  admits (To place) leave admitted = admitted
  admits End leave admitted = λ arrives. (aimed leave arrives).1 (admitted (aimed leave arrives).0)

  not_due : (label : ℕ) (Looks : Work → Type 0) (tick : ℤ) → IsDueBy queue search.limits.below label Looks tick → tick <ℤ stop → ⊥
  not_due label Looks tick by soon = elim by [
    | inl beyond ↦ omega (arith, ints)
    | inr waits ↦ let late = due waits.0 waits.1 in let known = waits.4 in omega (arith, ints)
  ]

  module _ (place : ℕ) (ready : Bool) (tick : ℤ) (at : IsReached search.labels.labels place ready tick) where
    same : label_at search.labels.labels at.0 ≡ at.1
    same = get_or_default search.labels.labels at.0 _ at.1 at.2 ∙ at.3

    place_is : (label_at search.labels.labels at.0).place ≡ place
    place_is = ap (λ l. l.place) same ∙ at.4.0

    ready_is : (label_at search.labels.labels at.0).ready ≡ ready
    ready_is = ap (λ l. l.ready) same ∙ at.4.1

    held : Holds (label_at search.labels.labels at.0).ticks tick
    held = subst (λ l. Holds l.ticks tick) (sym same) at.4.2

    here : IsInHand plan trip book search queue at.0 place ready tick
    here = subst (λ p. IsInHand plan trip book search queue at.0 p ready tick) place_is (subst (λ r. IsInHand plan trip book search queue at.0 (label_at search.labels.labels at.0).place r tick) ready_is (in_hand at.0 at.2 tick held))

    move_explored : (number : ℕ) → (IsTrue (place_at plan place).standing → ready ≡ true) → number < length (place_at plan place).moves → IsBelow lower (move_at plan place number).target (leave_of plan place (step_at number tick)) → IsMoveExplored plan trip book place tick number search
    move_explored number goes inside low = elim (here.moves goes number inside) [
      | inl explored ↦ explored
      | inr by ↦ absurd (not_due at.0 (LooksAtMove number tick) _ by low)
    ]

    waits_reached : IsTrue (place_at plan place).standing → ready ≡ false → (tick +ℤ (ahead_at search.limits.ahead place).ticks) <ℤ stop → (enter : ℤ) → (tick +ℤ (place_at plan place).dwell) ≤ℤ enter → enter ≤ℤ plan.horizon → WaitFits book (place_at plan place) tick enter → IsReached search.labels.labels place true enter
    waits_reached standing arrived low enter dwelt short fits = elim (here.waits standing arrived enter dwelt short fits) [
      | inl reached ↦ reached
      | inr by ↦ absurd (not_due at.0 (LooksAtWait tick enter) _ by low)
    ]

  -- a move from a tick at which the train can go on
  moved_on : (place : ℕ) (ready : Bool) (step : Step) → IsReached search.labels.labels place ready step.enter → (IsTrue (place_at plan place).standing → ready ≡ true) → IsFreeMove plan book place step → IsBelow lower (target_of plan place step) (leave_of plan place step) → Admits aim IsArrived (target_of plan place step) (leave_of plan place step)
  moved_on place ready step at goes free low =
      admits _ _ (move_explored place ready step.enter at step.number goes free.0.0 low free (omega (arith, ints)))

  soon : (place : ℕ) (step : Step) → place < length plan.places → IsFreeMove plan book place step → step.enter ≤ℤ plan.horizon
  soon place step within free =
      let run : pos 0 ≤ℤ (move_at plan place step.number).run = ((is.places place _ within).moves step.number _ free.0.0).run.0.0 in
      let leaves : (step.enter +ℤ (move_at plan place step.number).run) ≤ℤ plan.horizon = free.0.2 in
      omega (arith, ints)

  pub closed_when_in_hand : IsClosedBelow plan lower aim book (λ place tick. IsReached search.labels.labels place false tick)
  closed_when_in_hand = record {
    start = λ step departs free low. moved_on 0 true step (started step.enter (subst (λ window. Holds window step.enter) depart departs) free.0.1 (soon 0 step is.start free)) (λ standing. refl) free low;
    moves = λ place tick step at enters fits free low.
        let within = (tick_within plan trip book search.labels.labels sound place false tick at).0 in
        elim (cases_Bool (place_at plan place).standing) [
          | inl standing ↦
              let dwelt : (tick +ℤ least_wait (place_at plan place)) ≤ℤ step.enter = waited (place_at plan place) (place_at plan place).standing tick step.enter refl enters in
              let bound = consistent place step.number free.0.0 in
              moved_on place true step (waits_reached place false tick at standing refl (omega (arith, ints)) step.enter (enters.0 standing) (soon place step within free) fits) (λ _. refl) free low
          | inr moving ↦
              let not_standing : ¬ IsTrue (place_at plan place).standing = λ standing. cc in
              moved_on place false step (subst (IsReached search.labels.labels place false) (sym (enters.1 not_standing)) at) (λ standing. absurd (not_standing standing)) free low
        ];
  }
