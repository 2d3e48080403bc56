-- What is in hand stays so as labels and work are added.
use Rattle.std.proofs.Common.{◌≡◌, ℕ, ◌<◌, length, true, sym, subst, ap, ◌∙◌, inl, inr, arith}
use Rattle.std.specs.Prelude.{ℤ, pos, ◌+ℤ◌, ◌-ℤ◌, ◌≤ℤ◌, List}
use Rattle.std.specs.Int.{int_max}
use Rattle.std.proofs.lemmas.Bool.{cases_lt}
use Rattle.std.proofs.lemmas.Int.{ints}
use Rattle.label_search.specs.declared.plans.Plan.{Plan}
use Rattle.label_search.specs.declared.plans.Place.{Place}
use Rattle.label_search.specs.declared.plans.Trip.{Trip}
use Rattle.label_search.specs.declared.labels.Label.{Label}
use Rattle.label_search.specs.declared.labels.Front.{Front}
use Rattle.label_search.specs.declared.limits.Ahead.{Ahead}
use Rattle.label_search.specs.declared.searches.Search.{Search}
use Rattle.label_search.specs.declared.queues.Work.{Work}
use Rattle.label_search.specs.declared.queues.Work.TheVariants.{Leave}
use Rattle.label_search.specs.declared.queues.Due.{Due}
use Rattle.label_search.specs.Free.{Book}
use Rattle.label_search.specs.Paths.{place_at, move_at, leave_of}
use Rattle.label_search.specs.Limits.{ahead_at, ahead_of}
use Rattle.label_search.specs.Labels.{as_front, label_at}
use Rattle.label_search.specs.Search.{IsFurther, step_at}
use Rattle.label_search.specs.Queues.{Pending, Waits}
use Rattle.label_search.specs.Pending.{LooksAtMove, LooksAtWait, IsDueBy, IsMoveInHand, IsWaitInHand, IsToBeLeft, AreToBeLeft, IsAdvanced, label_arrival, waited}
use Rattle.label_search.proofs.Covers.{reached_more}
use Rattle.label_search.proofs.Growth.{label_at_more, further_none, further_more, move_further}

pub arrival_is : (plan : Plan) (ahead : List Ahead) (label : Label) (front : Front) (place : Place) (there behind : Ahead) (tick : ℤ) → front ≡ as_front label → place ≡ place_at plan front.place → there ≡ ahead_at ahead front.place → behind.ticks ≡ waited place front.ready → tick ≡ (front.ticks.from +ℤ int_max (there.ticks -ℤ behind.ticks) (pos 0)) → tick ≡ label_arrival plan ahead label
arrival_is plan ahead label front place there behind tick front_is place_is there_is behind_is tick_is =
    tick_is ∙ (ap (λ w. front.ticks.from +ℤ int_max (there.ticks -ℤ w) (pos 0)) (behind_is ∙ ap (λ p. waited p front.ready) place_is)
    ∙ (ap (λ (a : Ahead). front.ticks.from +ℤ int_max (a.ticks -ℤ waited (place_at plan front.place) front.ready) (pos 0)) there_is
    ∙ ap (λ (f : Front). f.ticks.from +ℤ int_max ((ahead_at ahead f.place).ticks -ℤ waited (place_at plan f.place) f.ready) (pos 0)) front_is))

pub to_be_left : (plan : Plan) (search : Search) (queue : Pending) (label : ℕ) (due : Due) → due.task.label ≡ label → due.task.work ≡ Leave → due.tick ≡ label_arrival plan search.limits.ahead (label_at search.labels.labels label) → Waits queue due → IsToBeLeft plan search queue label
to_be_left plan search queue label due same work tick waits = inr (due, waits, same, work, subst (λ t. due.tick ≤ℤ t) tick (omega (arith, ints)))

module _ (before after : Pending) (kept : (due : Due) → Waits before due → Waits after due) where
  pub due_kept : (below : ℤ) (label : ℕ) (Looks : Work → Type 0) (tick : ℤ) → IsDueBy before below label Looks tick → IsDueBy after below label Looks tick
  due_kept below label Looks tick by = elim by [
    | inl beyond ↦ inl beyond
    | inr waits ↦ inr (waits.0, kept waits.0 waits.1, waits.2, waits.3, waits.4)
  ]

  module _ (plan : Plan) (old new : Search) (further : IsFurther old new) where
    pub left_further : (label : ℕ) → label < length old.labels.labels → IsToBeLeft plan old before label → IsToBeLeft plan new after label
    left_further label early left =
        subst (λ l. IsDueBy after l.below label (λ work. work ≡ Leave) (label_arrival plan l.ahead (label_at new.labels.labels label))) (sym further.limits)
        (subst (λ one. IsDueBy after old.limits.below label (λ work. work ≡ Leave) (label_arrival plan old.limits.ahead one)) (sym (label_at_more (λ l. Unit {0}) old.labels.labels new.labels.labels further.grown label early))
        (due_kept old.limits.below label (λ work. work ≡ Leave) _ left))

    pub move_in_hand_more : (trip : Trip) (book : Book) (label place : ℕ) (tick : ℤ) (number : ℕ) → IsMoveInHand plan trip book old before label place tick number → IsMoveInHand plan trip book new after label place tick number
    move_in_hand_more trip book label place tick number in_hand = elim in_hand [
      | inl explored ↦ inl (move_further plan trip book old new further place tick number explored)
      | inr by ↦ inr (subst (λ l. IsDueBy after l.below label (LooksAtMove number tick) ((leave_of plan place (step_at number tick)) +ℤ ahead_of l.ahead (move_at plan place number).target)) (sym further.limits) (due_kept old.limits.below label (LooksAtMove number tick) _ by))
    ]

    pub wait_in_hand_more : (label place : ℕ) (tick enter : ℤ) → IsWaitInHand plan old before label place tick enter → IsWaitInHand plan new after label place tick enter
    wait_in_hand_more label place tick enter in_hand = elim in_hand [
      | inl reached ↦ inl (reached_more (λ l. Unit {0}) old.labels.labels new.labels.labels place true enter further.grown reached)
      | inr by ↦ inr (subst (λ l. IsDueBy after l.below label (LooksAtWait tick enter) (tick +ℤ (ahead_at l.ahead place).ticks)) (sym further.limits) (due_kept old.limits.below label (LooksAtWait tick enter) _ by))
    ]

pub advanced_none : (plan : Plan) (search : Search) (queue : Pending) → IsAdvanced plan search search queue queue
advanced_none plan search queue = record {
  further = further_none search;
  kept = λ due waits. waits;
  fresh = λ label from below. absurd (omega arith);
}

pub advanced_more : (plan : Plan) (old middle new : Search) (before between after : Pending) → IsAdvanced plan old middle before between → IsAdvanced plan middle new between after → IsAdvanced plan old new before after
advanced_more plan old middle new before between after first second = record {
  further = further_more old middle new first.further second.further;
  kept = λ due waits. second.kept due (first.kept due waits);
  fresh = λ label from below. elim (cases_lt label (length middle.labels.labels)) [
    | inl early ↦ left_further between after second.kept plan middle new second.further label early (first.fresh label from early)
    | inr late ↦ second.fresh label (omega arith) below
  ];
}

-- labels were added, and what they lead to
pub advanced_later : (plan : Plan) (old new : Search) (before after : Pending) (known : ℕ) → IsFurther old new → known ≡ length old.labels.labels → ((due : Due) → Waits before due → Waits after due) → AreToBeLeft plan new after known → IsAdvanced plan old new before after
advanced_later plan old new before after known further count kept left = record { further = further; kept = kept; fresh = subst (AreToBeLeft plan new after) count left }

-- work was added
pub advanced_push : (plan : Plan) (old new : Search) (before between after : Pending) → IsAdvanced plan old new before between → ((due : Due) → Waits between due → Waits after due) → IsAdvanced plan old new before after
advanced_push plan old new before between after first kept =
    advanced_more plan old new new before between after first (record { further = further_none new; kept = kept; fresh = λ label from below. absurd (omega arith) })
