-- What a search below a limit has shown.
use Rattle.std.proofs.Common.{◌≡◌, ◌⊎◌, ℕ, List, length, false, None, Some, subst, inl, inr, refl, arith}
use Rattle.std.specs.Prelude.{ℤ, ◌<ℤ◌, ◌≤ℤ◌}
use Rattle.std.proofs.lemmas.Int.{ints, by_lt_z}
use Rattle.label_search.specs.declared.plans.Plan.{Plan}
use Rattle.label_search.specs.declared.plans.Trip.{Trip}
use Rattle.label_search.specs.declared.plans.Step.{Step}
use Rattle.label_search.specs.declared.searches.Ending.{Ending}
use Rattle.label_search.specs.declared.searches.Search.{Search}
use Rattle.label_search.specs.Free.{Book}
use Rattle.free_windows.specs.Free.{Holds}
use Rattle.label_search.specs.Plans.{IsPlan}
use Rattle.label_search.specs.Paths.{IsPath, PathFits, Possible, arrival}
use Rattle.label_search.specs.Closed.{IsClosedBelow, before}
use Rattle.label_search.specs.Limits.{IsConsistent}
use Rattle.label_search.specs.Labels.{IsReached}
use Rattle.label_search.specs.Search.{IsSearch, IsStarted, IsExploredTo, IsBeaten, IsEnding, IsLow}
use Rattle.label_search.specs.Found.{IsLeast, ArriveFrom}
use Rattle.label_search.proofs.Exclusion.{not_below, path_before, path_within}
use Rattle.label_search.proofs.Starting.{closed_when_explored}

module _ (plan : Plan) (trip : Trip) (book : Book) (is : IsPlan plan book) (search : Search) (sound : IsSearch plan trip book search) (started : IsStarted plan trip search) (explored : IsExploredTo plan trip book (λ one. length one.labels.labels) search) (consistent : IsConsistent plan search.limits.ahead) where
  abbrev IsArrived : ℕ → ℤ → Type 0
  IsArrived place tick = IsReached search.labels.labels place false tick

  closed_for : (aim : Trip) → aim.depart ≡ trip.depart → ((leave : ℤ) → Holds aim.arrive leave → Holds trip.arrive leave × ¬ IsBeaten search.best leave) → IsClosedBelow plan search.limits aim book IsArrived
  closed_for aim depart aimed = closed_when_explored plan trip aim book is search sound.sound depart started explored aimed

  pub closed_none : search.best ≡ None → IsClosedBelow plan search.limits trip book (λ place tick. IsReached search.labels.labels place false tick)
  closed_none none = closed_for trip refl (λ leave arrives. (arrives, λ beaten. subst (λ best. IsBeaten best leave) none beaten))

  -- for the trip that would arrive before the best end
  pub closed_found : (ending : Ending) → search.best ≡ Some ending → IsEnding plan trip book search.labels.labels ending → (tick : ℤ) → tick ≡ ending.arrive.from → IsClosedBelow plan search.limits (before trip tick) book (λ place tick. IsReached search.labels.labels place false tick)
  closed_found ending best ends tick arrives =
      let inside = ends.arrives in let high = inside.1 in
      closed_for (before trip tick) refl (λ leave aimed. let soon = aimed.0 in let early = aimed.1 in
      ((soon, omega (arith, ints)), λ beaten. let late : ending.arrive.from ≤ℤ leave = subst (λ one. IsBeaten one leave) best beaten in omega (arith, ints)))

  pub none_below : search.best ≡ None → ArriveFrom plan trip book search.limits.below
  none_below none other path fits =
      not_below plan search.limits consistent trip book IsArrived (closed_none none) other path fits

  pub found_below : (ending : Ending) → search.best ≡ Some ending → IsEnding plan trip book search.labels.labels ending → (steps : List Step) → IsPath plan trip steps → PathFits plan book steps → arrival plan steps ≡ ending.arrive.from → IsLeast plan trip book steps
  found_below ending best ends steps path fits arrives =
      let low : ending.arrive.from <ℤ search.limits.below = subst (IsLow search.limits.below) best sound.low in
      let closed = closed_found ending best ends (arrival plan steps) arrives in
      record {
        path = path;
        fits = fits;
        least = λ other is_path its_fits. by_lt_z (arrival plan other) (arrival plan steps)
            (λ early. let late = not_below plan search.limits consistent (before trip (arrival plan steps)) book IsArrived closed other (path_before plan trip (arrival plan steps) other is_path early) its_fits in absurd (omega (arith, ints)))
            (λ late. late);
      }

-- where no path arrives before a tick behind the horizon or the window of arrival, there is none
pub none_past : (plan : Plan) (trip : Trip) (book : Book) (tick : ℤ) → ArriveFrom plan trip book tick → (plan.horizon <ℤ tick) ⊎ (trip.arrive.to <ℤ tick) → ¬ Possible plan trip book
none_past plan trip book tick from past possible =
    let late = from possible.0 possible.1 possible.2 in
    let within = path_within plan trip possible.0 possible.1 in
    let soon = within.0 in let arrives = within.1.1 in
    elim past [ inl beyond ↦ omega (arith, ints) | inr closes ↦ omega (arith, ints) ]
