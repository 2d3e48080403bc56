-- Where moves and waits lead.
use Rattle.std.proofs.Common.{◌≡◌, ◌⊎◌, ℕ, ◌<◌, List, length, true, false, Option, None, Some, IfSome, sym, subst, ap, ◌∙◌, inl, inr, refl, arith}
use Rattle.std.specs.Prelude.{ℤ, pos, ◌+ℤ◌, ◌-ℤ◌, ◌<ℤ◌, ◌≤ℤ◌, IsTrue}
use Rattle.std.proofs.lemmas.Int.{ints, clamps, by_lt_z}
use Rattle.rail_types.specs.declared.paths.Window.{Window}
use Rattle.label_search.specs.declared.plans.Target.TheVariants.{Place as To, End}
use Rattle.label_search.specs.declared.plans.Move.{Move}
use Rattle.label_search.specs.declared.plans.Plan.{Plan}
use Rattle.label_search.specs.declared.plans.Trip.{Trip}
use Rattle.label_search.specs.declared.labels.Label.{Label}
use Rattle.label_search.specs.declared.labels.Front.{Front}
use Rattle.label_search.specs.declared.labels.Origin.TheVariants.{Wait, Move as Moving}
use Rattle.label_search.specs.declared.searches.Ending.{Ending}
use Rattle.label_search.specs.declared.searches.Search.{Search}
use Rattle.std.specs.Int.{int_min}
use Rattle.rail_types.specs.declared.paths.Claim.{Claim}
use Rattle.free_windows.specs.Starts.{IsNextWindow}
use Rattle.label_search.specs.Free.{Book, Fits}
use Rattle.free_windows.specs.Free.{Holds}
use Rattle.label_search.specs.Paths.{place_at, move_at, leave_of}
use Rattle.label_search.specs.Closed.{IsFreeMove}
use Rattle.label_search.specs.Plans.{IsPlan, IsTarget}
use Rattle.label_search.specs.declared.limits.Limits.{Limits}
use Rattle.label_search.specs.Limits.{IsBelow, ahead_of, last_enter}
use Rattle.label_search.specs.Labels.{IsReached}
use Rattle.label_search.specs.Search.{IsWaited, IsWanted, IsEnd, IsEnding, IsLow, IsBeaten, IsAdmitted, IsMoveExplored, IsFurther, IsFrontOf, IsOneOf, entered_at, step_at}
use Rattle.label_search.proofs.Growth.{move_further}

module _ (plan : Plan) (trip : Trip) (book : Book) (search : Search) (front : Front) (at : IsFrontOf plan search front) (number : ℕ) (step : Move) (is : step ≡ move_at plan front.place number) (free leaves : Window) (first : leaves.from ≡ (free.from +ℤ step.run)) (last : leaves.to ≡ (free.to +ℤ step.run)) (some : free.from ≤ℤ free.to) (goes : IsTrue (place_at plan front.place).standing → front.ready ≡ true) (held : (enter : ℤ) → Holds free enter → Holds front.ticks enter) (fits : (enter : ℤ) → Holds free enter → IsFreeMove plan book front.place (step_at number enter)) where
  same_run : step.run ≡ (move_at plan front.place number).run
  same_run = ap (λ m. m.run) is

  entered : (leave : ℤ) → Holds leaves leave → Holds free (entered_at plan front.place number leave)
  entered leave inside = let low = inside.0 in let high = inside.1 in let run = same_run in (omega (arith, ints), omega (arith, ints))

  left : (enter : ℤ) → Holds free enter → Holds leaves (leave_of plan front.place (step_at number enter))
  left enter inside = let low = inside.0 in let high = inside.1 in let run = same_run in (omega (arith, ints), omega (arith, ints))

  module _ (place : ℕ) (target : step.target ≡ To place) where
    same_target : (move_at plan front.place number).target ≡ To place
    same_target = sym (ap (λ m. m.target) is) ∙ target

    pub wanted_of_move : place < length plan.places → pos 0 ≤ℤ step.run → IsWanted plan trip book search.labels.labels (record { place = place; ready = false; ticks = leaves; origin = Moving front.place front.ready number })
    wanted_of_move within run = record {
      place = within;
      ticks = (let begins = (fits free.from (omega (arith, ints), some)).0.1 in omega (arith, ints), let ends = (fits free.to (some, omega (arith, ints))).0.2 in let same = same_run in omega (arith, ints));
      come = λ leave inside. (
        refl,
        record {
          inside = at.place;
          target = same_target;
          came = (at.reached _ (held _ (entered leave inside)), goes);
          free = fits _ (entered leave inside);
        },
      );
    }

    pub admitted_place : (new : Search) → ((tick : ℤ) → Holds leaves tick → IsReached new.labels.labels place false tick) → (enter : ℤ) → Holds free enter → IsAdmitted trip new (move_at plan front.place number).target (leave_of plan front.place (step_at number enter))
    admitted_place new reached enter inside = subst (λ t. IsAdmitted trip new t (leave_of plan front.place (step_at number enter))) (sym same_target) (reached _ (left enter inside))

  module _ (target : step.target ≡ End) (best : Option Ending) where
    same_end : (move_at plan front.place number).target ≡ End
    same_end = sym (ap (λ m. m.target) is) ∙ target

    low_one : (found : Option Ending) → ((enter : ℤ) → Holds free enter → IsBelow search.limits (move_at plan front.place number).target (leave_of plan front.place (step_at number enter))) → IsOneOf trip (record { place = front.place; ready = front.ready; number = number; arrive = leaves }) found → IsLow search.limits.below found
    low_one None below one = tt
    low_one (Some ending) below one =
        let left = below _ (entered _ one.3) in
        let near : IsBelow search.limits End (leave_of plan front.place (step_at number (entered_at plan front.place number ending.arrive.from))) = subst (λ t. IsBelow search.limits t (leave_of plan front.place (step_at number (entered_at plan front.place number ending.arrive.from)))) same_end left in
        omega (arith, ints)

    is_ending : (found : Option Ending) → IsOneOf trip (record { place = front.place; ready = front.ready; number = number; arrive = leaves }) found → IfSome found (IsEnding plan trip book search.labels.labels)
    is_ending None one = tt
    is_ending (Some ending) one =
        subst (λ p. IsEnd plan trip book search.labels.labels p ending.ready ending.number ending.arrive.from) (sym one.0)
        (subst (λ r. IsEnd plan trip book search.labels.labels front.place r ending.number ending.arrive.from) (sym one.1)
        (subst (λ n. IsEnd plan trip book search.labels.labels front.place front.ready n ending.arrive.from) (sym one.2) (record {
          inside = at.place;
          target = same_end;
          came = (at.reached _ (held _ (entered _ one.3)), goes);
          free = fits _ (entered _ one.3);
          arrives = one.4;
        })))

    pub best_ending : IfSome search.best (IsEnding plan trip book search.labels.labels) → (best ≡ search.best) ⊎ IsOneOf trip (record { place = front.place; ready = front.ready; number = number; arrive = leaves }) best → IfSome best (IsEnding plan trip book search.labels.labels)
    best_ending old cases = elim cases [
      | inl same ↦ subst (λ b. IfSome b (IsEnding plan trip book search.labels.labels)) (sym same) old
      | inr one ↦ is_ending best one
    ]

    pub best_low : ((enter : ℤ) → Holds free enter → IsBelow search.limits (move_at plan front.place number).target (leave_of plan front.place (step_at number enter))) → IsLow search.limits.below search.best → (best ≡ search.best) ⊎ IsOneOf trip (record { place = front.place; ready = front.ready; number = number; arrive = leaves }) best → IsLow search.limits.below best
    best_low below old cases = elim cases [
      | inl same ↦ subst (IsLow search.limits.below) (sym same) old
      | inr one ↦ low_one best below one
    ]

    pub admitted_end : ((leave : ℤ) → Holds leaves leave → Holds trip.arrive leave → IsBeaten best leave) → (enter : ℤ) → Holds free enter → IsAdmitted trip (record { labels = search.labels; best = best; limits = search.limits }) (move_at plan front.place number).target (leave_of plan front.place (step_at number enter))
    admitted_end beaten enter inside = subst (λ t. IsAdmitted trip (record { labels = search.labels; best = best; limits = search.limits }) t (leave_of plan front.place (step_at number enter))) (sym same_end) (λ arrives. beaten _ (left enter inside) arrives)

-- ticks at which the train can go on after a wait
pub wanted_of_wait : (plan : Plan) (trip : Trip) (book : Book) (labels : List Label) (place : ℕ) (arrivals ticks : Window) → (pos 0 ≤ℤ ticks.from) × (ticks.to ≤ℤ plan.horizon) → place < length plan.places → ((tick : ℤ) → Holds ticks tick → IsWaited plan book labels arrivals place tick) → IsWanted plan trip book labels (record { place = place; ready = true; ticks = ticks; origin = Wait arrivals })
wanted_of_wait plan trip book labels place arrivals ticks within inside waited = record {
  place = inside;
  ticks = within;
  come = λ tick held. (refl, waited tick held);
}

-- a move of a plan takes no less than no time, and leads to a place of the plan
pub target_within : (plan : Plan) (book : Book) → IsPlan plan book → (place number : ℕ) (step : Move) → place < length plan.places → number < length (place_at plan place).moves → step ≡ move_at plan place number → (target : ℕ) → step.target ≡ To target → (pos 0 ≤ℤ step.run) × (target < length plan.places)
target_within plan book is place number step within inside same target leads =
    let move = (is.places place _ within).moves number _ inside in
    (subst (λ m. pos 0 ≤ℤ m.run) (sym same) move.run.0.0, subst (IsTarget (length plan.places)) (sym (ap (λ m. m.target) same) ∙ leads) move.target)

-- the free ticks of a label are those at which the move is free
module _ (plan : Plan) (book : Book) (front : Front) (number : ℕ) (step : Move) (is : step ≡ move_at plan front.place number) (pieces : List Claim) (same : pieces ≡ step.pieces) (rest : Window) (low : pos 0 ≤ℤ front.ticks.from) (from : front.ticks.from ≤ℤ rest.from) (limits : Limits) (to : rest.to ≡ int_min (int_min front.ticks.to (plan.horizon -ℤ step.run)) (last_enter limits step)) where
  pieces_of : pieces ≡ (move_at plan front.place number).pieces
  pieces_of = same ∙ ap (λ m. m.pieces) is

  run_of : step.run ≡ (move_at plan front.place number).run
  run_of = ap (λ m. m.run) is

  ahead_is : ahead_of limits.ahead step.target ≡ ahead_of limits.ahead (move_at plan front.place number).target
  ahead_is = ap (λ m. ahead_of limits.ahead m.target) is

  pub free_moves : number < length (place_at plan front.place).moves → (free : Window) → IsNextWindow (Fits book pieces) rest free → (enter : ℤ) → Holds free enter → IsFreeMove plan book front.place (step_at number enter)
  free_moves inside free next enter held =
      let first = next.from in let last = next.to in let begins = held.0 in let ends = held.1 in let run = run_of in
      ((inside, omega (arith, ints), omega (arith, ints, clamps)), subst (λ claims. Fits book claims enter) pieces_of (next.so enter held))

  pub free_below : (free : Window) → IsNextWindow (Fits book pieces) rest free → (other : Limits) → limits ≡ other → (enter : ℤ) → Holds free enter → IsBelow other (move_at plan front.place number).target (leave_of plan front.place (step_at number enter))
  free_below free next other same enter held =
      let last = next.to in let ends = held.1 in let run = run_of in let ahead = ahead_is in
      subst (λ l. IsBelow l (move_at plan front.place number).target (leave_of plan front.place (step_at number enter))) same (omega (arith, ints, clamps))

  fits_pieces : (enter : ℤ) → IsFreeMove plan book front.place (step_at number enter) → Fits book pieces enter
  fits_pieces enter free = subst (λ claims. Fits book claims enter) (sym pieces_of) free.1

  pub entered_within : (enter : ℤ) → Holds front.ticks enter → rest.from ≤ℤ enter → IsFreeMove plan book front.place (step_at number enter) → IsBelow limits (move_at plan front.place number).target (leave_of plan front.place (step_at number enter)) → Holds rest enter
  entered_within enter held behind free low =
      let ends = held.1 in let leaves = free.0.2 in let run = run_of in let ahead = ahead_is in
      (behind, omega (arith, ints, clamps))

  pub none_left : ((tick : ℤ) → Holds rest tick → ¬ Fits book pieces tick) → (enter : ℤ) → Holds front.ticks enter → rest.from ≤ℤ enter → IsFreeMove plan book front.place (step_at number enter) → ¬ IsBelow limits (move_at plan front.place number).target (leave_of plan front.place (step_at number enter))
  none_left none enter held behind free low = none enter (entered_within enter held behind free low) (fits_pieces enter free)

  pub admitted_more : (trip : Trip) (old new : Search) → IsFurther old new → (free : Window) → IsNextWindow (Fits book pieces) rest free
      → ((enter : ℤ) → Holds front.ticks enter → enter <ℤ rest.from → IsMoveExplored plan trip book front.place enter number old)
      → ((enter : ℤ) → Holds free enter → IsAdmitted trip new (move_at plan front.place number).target (leave_of plan front.place (step_at number enter)))
      → (enter : ℤ) → Holds front.ticks enter → enter ≤ℤ free.to → IsMoveExplored plan trip book front.place enter number new
  admitted_more trip old new further free next before here enter held early is_free low = by_lt_z enter rest.from
      (λ ahead. move_further plan trip book old new further front.place enter number (before enter held ahead) is_free low)
      (λ behind. by_lt_z enter free.from
      (λ blocked. absurd (next.before enter behind blocked (fits_pieces enter is_free)))
      (λ begun. here enter (begun, early)))
