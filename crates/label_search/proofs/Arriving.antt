-- What a search has shown when no work is due before its best end, or before its limit.
use Rattle.std.proofs.Common.{◌≡◌, ℕ, List, false, None, Some, subst, refl, arith}
use Rattle.std.specs.Prelude.{ℤ, ◌<ℤ◌, ◌≤ℤ◌}
use Rattle.std.proofs.lemmas.Int.{ints, by_lt_z}
use Rattle.label_search.specs.declared.plans.Plan.{Plan}
use Rattle.label_search.specs.declared.plans.Trip.{Trip}
use Rattle.label_search.specs.declared.plans.Step.{Step}
use Rattle.label_search.specs.declared.limits.Limits.{Limits}
use Rattle.label_search.specs.declared.searches.Ending.{Ending}
use Rattle.label_search.specs.declared.searches.Search.{Search}
use Rattle.label_search.specs.Queues.{Pending, AreDueFrom}
use Rattle.label_search.specs.Free.{Book}
use Rattle.label_search.specs.Plans.{IsPlan}
use Rattle.label_search.specs.Paths.{IsPath, PathFits, arrival}
use Rattle.label_search.specs.Closed.{IsClosedBelow, before}
use Rattle.label_search.specs.Limits.{IsConsistent}
use Rattle.label_search.specs.Labels.{IsReached}
use Rattle.label_search.specs.Search.{IsSearch, IsStarted, IsBeaten, IsEnding, IsLow}
use Rattle.label_search.specs.Found.{IsLeast, ArriveFrom}
use Rattle.label_search.specs.Pending.{AreInHand}
use Rattle.label_search.proofs.Exclusion.{not_below, path_before}
use Rattle.label_search.proofs.Settling.{closed_when_in_hand}

module _ (plan : Plan) (trip : Trip) (book : Book) (is : IsPlan plan book) (search : Search) (sound : IsSearch plan trip book search) (started : IsStarted plan trip search) (queue : Pending) (in_hand : AreInHand plan trip book search queue) (consistent : IsConsistent plan search.limits.ahead) where
  abbrev IsArrived : ℕ → ℤ → Type 0
  IsArrived place tick = IsReached search.labels.labels place false tick

  abbrev below_of : ℤ → Limits
  below_of stop = record { ahead = search.limits.ahead; below = stop }

  pub closed_none : search.best ≡ None → (stop : ℤ) → AreDueFrom queue stop → stop ≤ℤ search.limits.below → IsClosedBelow plan (below_of stop) trip book (λ place tick. IsReached search.labels.labels place false tick)
  closed_none none stop due early = closed_when_in_hand plan trip trip book is search sound.sound refl started queue in_hand stop due early consistent
      (λ leave arrives. (arrives, λ beaten. subst (λ best. IsBeaten best leave) none beaten))

  -- for the trip that would arrive before the best end
  pub closed_found : (ending : Ending) → search.best ≡ Some ending → IsEnding plan trip book search.labels.labels ending → (tick : ℤ) → tick ≡ ending.arrive.from → (stop : ℤ) → AreDueFrom queue stop → stop ≤ℤ search.limits.below → IsClosedBelow plan (below_of stop) (before trip tick) book (λ place tick. IsReached search.labels.labels place false tick)
  closed_found ending best ends tick arrives stop due early =
      let inside = ends.arrives in let high = inside.1 in
      closed_when_in_hand plan trip (before trip tick) book is search sound.sound refl started queue in_hand stop due early consistent
      (λ leave aimed. let soon = aimed.0 in let ahead = aimed.1 in
      ((soon, omega (arith, ints)), λ beaten. let late : ending.arrive.from ≤ℤ leave = subst (λ one. IsBeaten one leave) best beaten in omega (arith, ints)))

  pub none_below : search.best ≡ None → AreDueFrom queue search.limits.below → ArriveFrom plan trip book search.limits.below
  none_below none due other path fits =
      not_below plan (below_of search.limits.below) consistent trip book IsArrived (closed_none none search.limits.below due (omega (arith, ints))) other path fits

  -- no work is due before the best end
  pub found_first : (ending : Ending) → search.best ≡ Some ending → IsEnding plan trip book search.labels.labels ending → AreDueFrom queue ending.arrive.from → (steps : List Step) → IsPath plan trip steps → PathFits plan book steps → arrival plan steps ≡ ending.arrive.from → IsLeast plan trip book steps
  found_first ending best ends due steps path fits arrives =
      let low : ending.arrive.from <ℤ search.limits.below = subst (IsLow search.limits.below) best sound.low in
      let closed = closed_found ending best ends (arrival plan steps) arrives ending.arrive.from due (omega (arith, ints)) in
      record {
        path = path;
        fits = fits;
        least = λ other is_path its_fits. by_lt_z (arrival plan other) (arrival plan steps)
            (λ early. let late = not_below plan (below_of ending.arrive.from) consistent (before trip (arrival plan steps)) book IsArrived closed other (path_before plan trip (arrival plan steps) other is_path early) its_fits in absurd (omega (arith, ints)))
            (λ late. late);
      }
