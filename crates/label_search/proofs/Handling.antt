-- What is in hand stays so when a task is taken out and done.
use Rattle.std.proofs.Common.{◌≡◌, ◌⊎◌, ℕ, ◌≤◌, ◌<◌, length, Bool, true, false, sym, subst, inl, inr, arith}
use Rattle.std.specs.Prelude.{ℤ, ◌+ℤ◌, ◌≤ℤ◌, IsTrue}
use Rattle.std.proofs.lemmas.Bool.{cases_lt}
use Rattle.label_search.specs.declared.plans.Plan.{Plan}
use Rattle.label_search.specs.declared.plans.Trip.{Trip}
use Rattle.label_search.specs.declared.searches.Search.{Search}
use Rattle.label_search.specs.declared.queues.Work.{Work}
use Rattle.label_search.specs.declared.queues.Due.{Due}
use Rattle.label_search.specs.Queues.{Pending, Waits}
use Rattle.label_search.specs.Free.{Book}
use Rattle.free_windows.specs.Free.{Holds}
use Rattle.label_search.specs.Paths.{place_at, move_at, leave_of, WaitFits}
use Rattle.label_search.specs.Limits.{ahead_at, ahead_of}
use Rattle.label_search.specs.Labels.{as_front, label_at}
use Rattle.label_search.specs.Search.{IsFurther, step_at}
use Rattle.label_search.specs.Pending.{LooksAtMove, LooksAtWait, IsDueBy, IsMoveInHand, IsWaitInHand, IsInHand, AreInHand, IsDone}
use Rattle.label_search.proofs.Covers.{reached_more}
use Rattle.label_search.proofs.Growth.{label_at_more, move_further}

module _ (plan : Plan) (trip : Trip) (book : Book) (old new : Search) (further : IsFurther old new) (before left after : Pending) (due : Due)
    (rest : (one : Due) → Waits before one → Waits left one ⊎ (one ≡ due))
    (kept : (one : Due) → Waits left one → Waits after one) where
  due_more : (label : ℕ) (Looks : Work → Type 0) (tick : ℤ) → IsDueBy before old.limits.below label Looks tick → IsDueBy after new.limits.below label Looks tick ⊎ ((due.task.label ≡ label) × Looks due.task.work)
  due_more label Looks tick by = elim by [
    | inl beyond ↦ inl (inl (subst (λ l. l.below ≤ℤ tick) (sym further.limits) beyond))
    | inr waits ↦ elim (rest waits.0 waits.1) [
      | inl there ↦ inl (inr (waits.0, kept waits.0 there, waits.2, waits.3, waits.4))
      | inr same ↦ inr (subst (λ one. (one.task.label ≡ label) × Looks one.task.work) same (waits.2, waits.3))
    ]
  ]

  module _ (label place : ℕ) (ready : Bool) (tick : ℤ)
      (done_waits : due.task.label ≡ label → (enter : ℤ) → LooksAtWait tick enter due.task.work → IsTrue (place_at plan place).standing → ready ≡ false → (tick +ℤ (place_at plan place).dwell) ≤ℤ enter → enter ≤ℤ plan.horizon → WaitFits book (place_at plan place) tick enter → IsWaitInHand plan new after label place tick enter)
      (done_moves : due.task.label ≡ label → (number : ℕ) → LooksAtMove number tick due.task.work → (IsTrue (place_at plan place).standing → ready ≡ true) → number < length (place_at plan place).moves → IsMoveInHand plan trip book new after label place tick number) where
    pub in_hand_more : IsInHand plan trip book old before label place ready tick → IsInHand plan trip book new after label place ready tick
    in_hand_more in_hand = record {
      waits = λ standing arrived enter dwelt short fits. elim (in_hand.waits standing arrived enter dwelt short fits) [
        | inl reached ↦ inl (reached_more (λ l. Unit {0}) old.labels.labels new.labels.labels place true enter further.grown reached)
        | inr by ↦ elim (due_more label (LooksAtWait tick enter) _ by) [
          | inl still ↦ inr (subst (λ l. IsDueBy after new.limits.below label (LooksAtWait tick enter) (tick +ℤ (ahead_at l.ahead place).ticks)) (sym further.limits) still)
          | inr now ↦ done_waits now.0 enter now.1 standing arrived dwelt short fits
        ]
      ];
      moves = λ goes number inside. elim (in_hand.moves goes number inside) [
        | inl explored ↦ inl (move_further plan trip book old new further place tick number explored)
        | inr by ↦ elim (due_more label (LooksAtMove number tick) _ by) [
          | inl still ↦ inr (subst (λ l. IsDueBy after new.limits.below label (LooksAtMove number tick) ((leave_of plan place (step_at number tick)) +ℤ ahead_of l.ahead (move_at plan place number).target)) (sym further.limits) still)
          | inr now ↦ done_moves now.0 number now.1 goes inside
        ]
      ];
    }

  -- all labels, where the task is done and those that came are in hand
  pub all_in_hand : (due.task.label < length old.labels.labels → IsDone plan trip book new after due.task.label (as_front (label_at old.labels.labels due.task.label)) due.task.work)
      → ((label : ℕ) → length old.labels.labels ≤ label → label < length new.labels.labels → (tick : ℤ) → Holds (label_at new.labels.labels label).ticks tick → IsInHand plan trip book new after label (label_at new.labels.labels label).place (label_at new.labels.labels label).ready tick)
      → AreInHand plan trip book old before → AreInHand plan trip book new after
  all_in_hand done fresh in_hand label inside tick = elim (cases_lt label (length old.labels.labels)) [
    | inl early ↦
        let here : due.task.label ≡ label → IsDone plan trip book new after label (as_front (label_at old.labels.labels label)) due.task.work =
        λ same. subst (λ n. IsDone plan trip book new after n (as_front (label_at old.labels.labels n)) due.task.work) same (done (subst (λ n. n < length old.labels.labels) (sym same) early)) in
        subst (λ l. Holds l.ticks tick → IsInHand plan trip book new after label l.place l.ready tick) (sym (label_at_more (λ l. Unit {0}) old.labels.labels new.labels.labels further.grown label early))
        (λ held. in_hand_more label (label_at old.labels.labels label).place (label_at old.labels.labels label).ready tick
        (λ same enter looks standing arrived dwelt short fits. (here same).waits tick enter held looks standing arrived dwelt short fits)
        (λ same number looks goes within. (here same).moves tick held number looks goes within)
        (in_hand label early tick held))
    | inr behind ↦ fresh label (omega arith) inside tick
  ]
