-- The first free ticks of a move, and what is behind them.
use Rattle.std.proofs.Common.{◌≡◌, ℕ, List, true, sym, subst, ap, ◌∙◌, inl, inr, refl, arith}
use Rattle.std.specs.Prelude.{ℤ, pos, ◌+ℤ◌, ◌-ℤ◌, ◌<ℤ◌, ◌≤ℤ◌}
use Rattle.std.specs.Int.{int_min}
use Rattle.std.proofs.lemmas.Int.{ints, by_lt_z}
use Rattle.rail_types.specs.declared.paths.Claim.{Claim}
use Rattle.rail_types.specs.declared.paths.Window.{Window}
use Rattle.label_search.specs.declared.plans.Move.{Move}
use Rattle.label_search.specs.declared.plans.Place.{Place}
use Rattle.label_search.specs.declared.plans.Plan.{Plan}
use Rattle.label_search.specs.declared.plans.Trip.{Trip}
use Rattle.label_search.specs.declared.labels.Front.{Front}
use Rattle.label_search.specs.declared.limits.Ahead.{Ahead}
use Rattle.label_search.specs.declared.limits.Limits.{Limits}
use Rattle.label_search.specs.declared.searches.Search.{Search}
use Rattle.label_search.specs.declared.queues.Work.TheVariants.{Wait as Waiting, Move as Moving}
use Rattle.label_search.specs.declared.queues.Due.{Due}
use Rattle.label_search.specs.Free.{Book, Fits}
use Rattle.free_windows.specs.Free.{Holds}
use Rattle.free_windows.specs.Starts.{IsNextWindow}
use Rattle.label_search.specs.Paths.{place_at, move_at, leave_of, WaitFits}
use Rattle.label_search.specs.Limits.{IsBelow, ahead_at, ahead_to, ahead_of, last_enter}
use Rattle.label_search.specs.Labels.{IsReached}
use Rattle.label_search.specs.Search.{IsAdmitted, IsMoveExplored, IsFurther, step_at}
use Rattle.label_search.specs.Queues.{Pending, Waits}
use Rattle.label_search.specs.Pending.{LooksAtMove, LooksAtWait, IsMoveInHand, AreLongWaitsInHand}
use Rattle.label_search.proofs.Reaching.{entered_within, none_left, admitted_more}
use Rattle.label_search.proofs.Waiting.{waits_more}

module _ (plan : Plan) (book : Book) (front : Front) (number : ℕ) (step : Move) (is : step ≡ move_at plan front.place number) (pieces : List Claim) (same : pieces ≡ step.pieces) (rest : Window) (low : pos 0 ≤ℤ front.ticks.from) (from : rest.from ≡ front.ticks.from) (limits : Limits) (to : rest.to ≡ int_min (int_min front.ticks.to (plan.horizon -ℤ step.run)) (last_enter limits step)) where
  -- no ticks are free from one on
  none_behind : (trip : Trip) (search : Search) → search.limits ≡ limits → (part : Window) → front.ticks.from ≤ℤ part.from → part.to ≡ rest.to → ((tick : ℤ) → Holds part tick → ¬ Fits book pieces tick) → (tick : ℤ) → Holds front.ticks tick → part.from ≤ℤ tick → IsMoveExplored plan trip book front.place tick number search
  none_behind trip search limits_is part first last none tick held behind free below =
      absurd (none_left plan book front number step is pieces same part low first limits (last ∙ to) none tick held behind free
      (subst (λ l. IsBelow l (move_at plan front.place number).target (leave_of plan front.place (step_at number tick))) limits_is below))

  pub none_in_hand : (trip : Trip) (search : Search) → search.limits ≡ limits → (queue : Pending) (label : ℕ) → ((tick : ℤ) → Holds rest tick → ¬ Fits book pieces tick) → (tick : ℤ) → Holds front.ticks tick → IsMoveInHand plan trip book search queue label front.place tick number
  none_in_hand trip search limits_is queue label none tick held =
      let begins = held.0 in
      inl (none_behind trip search limits_is rest (omega (arith, ints)) refl none tick held (omega (arith, ints)))

  -- labels have all that the move leads to
  pub known_in_hand : (trip : Trip) (search : Search) → search.limits ≡ limits → (queue : Pending) (label : ℕ) → ((enter : ℤ) → Holds rest enter → IsAdmitted trip search step.target (enter +ℤ step.run)) → (tick : ℤ) → Holds front.ticks tick → IsMoveInHand plan trip book search queue label front.place tick number
  known_in_hand trip search limits_is queue label known tick held =
      let begins = held.0 in
      inl (λ free below. subst (λ (m : Move). IsAdmitted trip search m.target (tick +ℤ m.run)) is
      (known tick (entered_within plan book front number step is pieces same rest low (omega (arith, ints)) limits to tick held (omega (arith, ints)) free
      (subst (λ l. IsBelow l (move_at plan front.place number).target (leave_of plan front.place (step_at number tick))) limits_is below))))

  module _ (trip : Trip) (old new : Search) (limits_is : old.limits ≡ limits) (further : IsFurther old new) (free : Window) (next : IsNextWindow (Fits book pieces) rest free) (admitted : (enter : ℤ) → Holds free enter → IsAdmitted trip new (move_at plan front.place number).target (leave_of plan front.place (step_at number enter))) (queue : Pending) (label : ℕ) where
    first_explored : (tick : ℤ) → Holds front.ticks tick → tick ≤ℤ free.to → IsMoveExplored plan trip book front.place tick number new
    first_explored tick held early =
        admitted_more plan book front number step is pieces same rest low (omega (arith, ints)) limits to trip old new further free next
        (λ enter inside ahead. let begins = inside.0 in absurd (omega (arith, ints))) admitted tick held early

    -- the free ticks are the last
    pub last_in_hand : rest.to ≤ℤ free.to → (tick : ℤ) → Holds front.ticks tick → IsMoveInHand plan trip book new queue label front.place tick number
    last_in_hand last tick held = by_lt_z free.to tick
        (λ behind. let first = next.from in let some = next.ticks in
        inl (none_behind trip new (further.limits ∙ limits_is) (record { from = free.to +ℤ pos 1; to = rest.to }) (omega (arith, ints)) refl (λ one inside. let begins = inside.0 in let ends = inside.1 in absurd (omega (arith, ints))) tick held (omega (arith, ints))))
        (λ early. inl (first_explored tick held early))

    -- what is behind them waits
    pub rest_in_hand : (due : Due) → due.task.label ≡ label → due.task.work ≡ Moving number (free.to +ℤ pos 1) → (there : Ahead) → there ≡ ahead_to new.limits.ahead step.target → due.tick ≡ (((free.to +ℤ pos 1) +ℤ step.run) +ℤ there.ticks) → Waits queue due → (tick : ℤ) → Holds front.ticks tick → IsMoveInHand plan trip book new queue label front.place tick number
    rest_in_hand due label_is work there there_is tick_is waits tick held = by_lt_z free.to tick
        (λ behind.
        let run : step.run ≡ (move_at plan front.place number).run = ap (λ (m : Move). m.run) is in
        let ahead : there.ticks ≡ ahead_of new.limits.ahead (move_at plan front.place number).target = ap (λ (a : Ahead). a.ticks) there_is ∙ ap (λ (m : Move). ahead_of new.limits.ahead m.target) is in
        inr (inr (due, waits, label_is, subst (LooksAtMove number tick) (sym work) (refl, omega (arith, ints)), omega (arith, ints))))
        (λ early. inl (first_explored tick held early))

-- the first ticks at which a train can stand
module _ (plan : Plan) (book : Book) (front : Front) (place : Place) (is : place ≡ place_at plan front.place) (waits : List Claim) (same : waits ≡ place.waits) (rest : Window) (low : pos 0 ≤ℤ front.ticks.from) (from : rest.from ≡ front.ticks.from) (to : rest.to ≡ plan.horizon) (positive : pos 0 ≤ℤ (place_at plan front.place).dwell) (queue : Pending) (label : ℕ) where
  claims_of : waits ≡ (place_at plan front.place).waits
  claims_of = same ∙ ap (λ (p : Place). p.waits) is

  -- no train that came at these ticks can stand there
  pub none_waits : (search : Search) → ((tick : ℤ) → Holds front.ticks tick → tick ≤ℤ rest.to → ¬ Fits book waits tick) → (tick : ℤ) → Holds front.ticks tick → AreLongWaitsInHand plan book search queue label front.place tick
  none_waits search none tick held enter dwelt short takes fits =
      absurd (none tick held (omega (arith, ints)) (subst (λ claims. Fits book claims tick) (sym claims_of) (fits tick (omega (arith, ints)) takes)))

  module _ (free : Window) (next : IsNextWindow (Fits book waits) rest free) (ticks : Window) (first : ticks.from ≡ (free.from +ℤ place.dwell)) (last : ticks.to ≡ int_min (free.to +ℤ pos 1) plan.horizon) (old new : Search) (further : IsFurther old new) (reached : (tick : ℤ) → Holds ticks tick → IsReached new.labels.labels front.place true tick) where
    first_reached : (tick enter : ℤ) → Holds front.ticks tick → tick ≤ℤ free.to → (tick +ℤ (place_at plan front.place).dwell) ≤ℤ enter → enter ≤ℤ plan.horizon → tick <ℤ enter → WaitFits book (place_at plan front.place) tick enter → IsReached new.labels.labels front.place true enter
    first_reached tick enter held early dwelt short takes fits =
        waits_more plan book front place is waits same rest low (omega (arith, ints)) to positive free next ticks first last old new further
        (λ one other inside ahead. let begins = inside.0 in absurd (omega (arith, ints))) reached (free.to +ℤ pos 1) refl tick enter held (omega (arith, ints)) dwelt short takes fits

    pub last_waits : front.ticks.to ≤ℤ free.to → (tick : ℤ) → Holds front.ticks tick → AreLongWaitsInHand plan book new queue label front.place tick
    last_waits ends tick held enter dwelt short takes fits = let high = held.1 in inl (first_reached tick enter held (omega (arith, ints)) dwelt short takes fits)

    -- those that came behind the free ticks cannot arrive below the limit
    pub far_waits : (there : Ahead) → there ≡ ahead_at new.limits.ahead front.place → new.limits.below ≤ℤ ((free.to +ℤ pos 1) +ℤ there.ticks) → (tick : ℤ) → Holds front.ticks tick → AreLongWaitsInHand plan book new queue label front.place tick
    far_waits there there_is far tick held enter dwelt short takes fits = by_lt_z free.to tick
        (λ behind. let ahead : there.ticks ≡ (ahead_at new.limits.ahead front.place).ticks = ap (λ (a : Ahead). a.ticks) there_is in inr (inl (omega (arith, ints))))
        (λ early. inl (first_reached tick enter held early dwelt short takes fits))

    pub rest_waits : (due : Due) → due.task.label ≡ label → due.task.work ≡ Waiting (free.to +ℤ pos 1) → (there : Ahead) → there ≡ ahead_at new.limits.ahead front.place → due.tick ≡ ((free.to +ℤ pos 1) +ℤ there.ticks) → Waits queue due → (tick : ℤ) → Holds front.ticks tick → AreLongWaitsInHand plan book new queue label front.place tick
    rest_waits due label_is work there there_is tick_is there_waits tick held enter dwelt short takes fits = by_lt_z free.to tick
        (λ behind. let ahead : there.ticks ≡ (ahead_at new.limits.ahead front.place).ticks = ap (λ (a : Ahead). a.ticks) there_is in
        inr (inr (due, there_waits, label_is, subst (LooksAtWait tick enter) (sym work) (omega (arith, ints), takes), omega (arith, ints))))
        (λ early. inl (first_reached tick enter held early dwelt short takes fits))
