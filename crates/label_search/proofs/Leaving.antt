-- A label that is to be left is in hand at each of its ticks.
use Rattle.std.proofs.Common.{◌≡◌, ℕ, zero, suc, ◌≤◌, ◌<◌, List, [], ◌∷◌, length, All, Bool, true, false, sym, subst, inl, inr, refl, arith}
use Rattle.std.specs.Prelude.{ℤ, pos, ◌+ℤ◌, ◌≤ℤ◌, IsTrue, if◌then◌else◌}
use Rattle.std.proofs.lemmas.Int.{ints, clamps}
use Rattle.label_search.specs.declared.plans.Place.{Place}
use Rattle.std.proofs.lemmas.List.Elements.{All-tail}
use Rattle.label_search.specs.declared.plans.Plan.{Plan}
use Rattle.label_search.specs.declared.plans.Target.{Target}
use Rattle.label_search.specs.declared.plans.Target.TheVariants.{Place as To, End}
use Rattle.label_search.specs.declared.limits.Ahead.{Ahead}
use Rattle.label_search.specs.Plans.{IsPlan}
use Rattle.label_search.specs.declared.plans.Trip.{Trip}
use Rattle.label_search.specs.declared.searches.Search.{Search}
use Rattle.label_search.specs.declared.queues.Work.{Work}
use Rattle.label_search.specs.declared.queues.Work.TheVariants.{Leave}
use Rattle.label_search.specs.Queues.{Pending}
use Rattle.label_search.specs.Free.{Book}
use Rattle.label_search.specs.Paths.{place_at, move_at, leave_of}
use Rattle.label_search.specs.Limits.{IsAhead, IsLimits, IsConsistent, ahead_at, ahead_of}
use Rattle.free_windows.specs.Free.{Holds}
use Rattle.label_search.specs.Labels.{label_at}
use Rattle.label_search.specs.Search.{IsSearch, step_at}
use Rattle.label_search.specs.Pending.{LooksAtMove, LooksAtWait, IsDueBy, IsInHand, AreToBeLeft, least_arrival}

due_later : (queue : Pending) (below : ℤ) (label : ℕ) (Looks Other : Work → Type 0) (tick later : ℤ) → ((work : Work) → Looks work → Other work) → tick ≤ℤ later → IsDueBy queue below label Looks tick → IsDueBy queue below label Other later
due_later queue below label Looks Other tick later more after by = elim by [
  | inl beyond ↦ inl (omega (arith, ints))
  | inr waits ↦ let known = waits.4 in inr (waits.0, waits.1, waits.2, more waits.0.task.work waits.3, omega (arith, ints))
]

no_wait : (place : Place) (standing : Bool) → ¬ IsTrue standing → (if standing then place.dwell else pos 0) ≡ pos 0
no_wait place true moving = absurd (moving refl)
no_wait place false moving = refl

ahead_positive : (ahead : List Ahead) → All IsAhead ahead → (place : ℕ) → pos 0 ≤ℤ (ahead_at ahead place).ticks
ahead_positive [] are place = omega (arith, ints)
ahead_positive (one ∷ ahead) are zero = (are 0 one (omega arith)).0
ahead_positive (one ∷ ahead) are (suc place) = ahead_positive ahead (All-tail IsAhead one ahead are) place

ahead_of_positive : (ahead : List Ahead) → All IsAhead ahead → (target : Target) → pos 0 ≤ℤ ahead_of ahead target
ahead_of_positive ahead are (To place) = ahead_positive ahead are place
ahead_of_positive ahead are End = omega (arith, ints)

-- what is ahead of a train that goes on is no more than what a move takes and what is ahead behind it
due_before_moves : (plan : Plan) (search : Search) → IsConsistent plan search.limits.ahead → All IsAhead search.limits.ahead → (place : ℕ) (ready : Bool) (from tick : ℤ) (number : ℕ) → from ≤ℤ tick → (IsTrue (place_at plan place).standing → ready ≡ true) → number < length (place_at plan place).moves → pos 0 ≤ℤ (move_at plan place number).run → least_arrival plan search.limits.ahead place ready from ≤ℤ ((leave_of plan place (step_at number tick)) +ℤ ahead_of search.limits.ahead (move_at plan place number).target)
due_before_moves plan search consistent are place true from tick number low goes inside run = let bound = consistent place number inside in let there = ahead_of_positive search.limits.ahead are (move_at plan place number).target in omega (arith, ints, clamps)
due_before_moves plan search consistent are place false from tick number low goes inside run =
    let bound = consistent place number inside in
    let there = ahead_of_positive search.limits.ahead are (move_at plan place number).target in
    let none = no_wait (place_at plan place) (place_at plan place).standing (λ standing. let contrary = goes standing in absurd (cc)) in
    omega (arith, ints, clamps)

pub left_in_hand : (plan : Plan) (trip : Trip) (book : Book) → IsPlan plan book → (search : Search) → IsLimits search.limits → IsConsistent plan search.limits.ahead → (queue : Pending) (label place : ℕ) → place < length plan.places → (ready : Bool) (from tick : ℤ) → from ≤ℤ tick → IsDueBy queue search.limits.below label (λ work. work ≡ Leave) (least_arrival plan search.limits.ahead place ready from) → IsInHand plan trip book search queue label place ready tick
left_in_hand plan trip book is search limits consistent queue label place within ready from tick low by = record {
  waits = λ standing arrived enter dwelt short fits. inr (due_later queue search.limits.below label (λ work. work ≡ Leave) (LooksAtWait tick enter) _ _ (λ work leaves. subst (LooksAtWait tick enter) (sym leaves) tt)
      (subst (λ r. least_arrival plan search.limits.ahead place r from ≤ℤ (tick +ℤ (ahead_at search.limits.ahead place).ticks)) (sym arrived) (let here = ahead_positive search.limits.ahead limits.ahead place in omega (arith, ints, clamps))) by);
  moves = λ goes number inside. inr (due_later queue search.limits.below label (λ work. work ≡ Leave) (LooksAtMove number tick) _ _ (λ work leaves. subst (LooksAtMove number tick) (sym leaves) tt)
      (due_before_moves plan search consistent limits.ahead place ready from tick number low goes inside ((is.places place _ within).moves number _ inside).run.0.0) by);
}

-- labels that are to be left are in hand
pub labels_in_hand : (plan : Plan) (trip : Trip) (book : Book) → IsPlan plan book → (search : Search) → IsSearch plan trip book search → IsConsistent plan search.limits.ahead → (queue : Pending) (from : ℕ) → AreToBeLeft plan search queue from → (label : ℕ) → from ≤ label → label < length search.labels.labels → (tick : ℤ) → Holds (label_at search.labels.labels label).ticks tick → IsInHand plan trip book search queue label (label_at search.labels.labels label).place (label_at search.labels.labels label).ready tick
labels_in_hand plan trip book is search sound consistent queue from left label behind inside tick held =
    left_in_hand plan trip book is search sound.limits consistent queue label (label_at search.labels.labels label).place (sound.sound label _ inside).wanted.place (label_at search.labels.labels label).ready (label_at search.labels.labels label).ticks.from tick held.0 (left label behind inside)
