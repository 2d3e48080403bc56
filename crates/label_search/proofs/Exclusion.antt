-- Closed members exclude paths.
use Rattle.std.proofs.Common.{◌≡◌, ℕ, List, [], ◌∷◌, Bool, true, false, sym, refl, arith}
use Rattle.std.specs.Prelude.{ℤ, pos, ◌+ℤ◌, ◌<ℤ◌, ◌≤ℤ◌, IsTrue, if◌then◌else◌}
use Rattle.std.proofs.lemmas.Int.{ints, by_lt_z}
use Rattle.label_search.specs.declared.plans.Target.{Target}
use Rattle.label_search.specs.declared.plans.Target.TheVariants.{Place as To, End}
use Rattle.label_search.specs.declared.plans.Plan.{Plan}
use Rattle.label_search.specs.declared.plans.Trip.{Trip}
use Rattle.label_search.specs.declared.plans.Step.{Step}
use Rattle.label_search.specs.declared.plans.Member.{Member}
use Rattle.label_search.specs.Free.{Book}
use Rattle.free_windows.specs.Free.{Holds}
use Rattle.label_search.specs.declared.plans.Place.{Place}
use Rattle.label_search.specs.Paths.{Enters, place_at, move_at, Possible, IsPath, IsRest, PathFits, RestFits, arrival, last_leave, target_of, leave_of}
use Rattle.label_search.specs.Closed.{IsClosed, IsClosedBelow, IsHeld, Admits, before}
use Rattle.label_search.specs.declared.limits.Limits.{Limits}
use Rattle.label_search.specs.Limits.{IsBelow, IsConsistent, ahead_of, least_wait}

module _ (plan : Plan) (trip : Trip) (book : Book) (members : List Member) (closed : IsClosed plan trip book members) where
  rest_excluded : (target : Target) (leave : ℤ) (steps : List Step) → Admits trip (IsHeld members) target leave → IsRest plan trip target leave steps → RestFits plan book target leave steps → ⊥
  rest_excluded End leave [] admitted rest fits = admitted rest
  rest_excluded End leave (step ∷ steps) admitted rest fits = rest
  rest_excluded (To place) leave [] admitted rest fits = rest
  rest_excluded (To place) leave (step ∷ steps) admitted rest fits =
      rest_excluded (target_of plan place step) (leave_of plan place step) steps (closed.moves place leave step admitted rest.1 fits.0 (rest.0, fits.1)) rest.2 fits.2

  pub path_excluded : (steps : List Step) → IsPath plan trip steps → PathFits plan book steps → ⊥
  path_excluded [] path fits = path
  path_excluded (step ∷ steps) path fits =
      rest_excluded (target_of plan 0 step) (leave_of plan 0 step) steps (closed.start step path.1 (path.0, fits.0)) path.2 fits.1

  pub excluded : Possible plan trip book → ⊥
  excluded possible = path_excluded possible.0 possible.1 possible.2

-- a path that arrives before a tick keeps the window that ends there
module _ (plan : Plan) (trip : Trip) (tick : ℤ) where
  rest_before : (target : Target) (leave : ℤ) (steps : List Step) → IsRest plan trip target leave steps → last_leave plan target leave steps <ℤ tick → IsRest plan (before trip tick) target leave steps
  rest_before End leave [] rest early = (rest.0, omega (arith, ints))
  rest_before End leave (step ∷ steps) rest early = rest
  rest_before (To place) leave [] rest early = rest
  rest_before (To place) leave (step ∷ steps) rest early =
      (rest.0, rest.1, rest_before (target_of plan place step) (leave_of plan place step) steps rest.2 early)

  pub path_before : (steps : List Step) → IsPath plan trip steps → arrival plan steps <ℤ tick → IsPath plan (before trip tick) steps
  path_before [] path early = path
  path_before (step ∷ steps) path early = (path.0, path.1, rest_before (target_of plan 0 step) (leave_of plan 0 step) steps path.2 early)

  pub later : (book : Book) (members : List Member) → IsClosed plan (before trip tick) book members → (steps : List Step) → IsPath plan trip steps → PathFits plan book steps → tick ≤ℤ arrival plan steps
  later book members closed steps path fits =
      by_lt_z (arrival plan steps) tick (λ early. absurd (path_excluded plan (before trip tick) book members closed steps (path_before steps path early) fits)) (λ late. late)

-- a train that goes on has waited as long as it must at least
pub waited : (place : Place) (standing : Bool) (arrive enter : ℤ) → standing ≡ place.standing → Enters place arrive enter → (arrive +ℤ (if standing then place.dwell else pos 0)) ≤ℤ enter
waited place true arrive enter same enters = enters.0 (sym same)
waited place false arrive enter same enters =
    let moving : ¬ IsTrue place.standing = λ standing. cc in
    let equal = enters.1 moving in
    omega (arith, ints)

-- where nothing that may end below a limit leads out of what is held, and the ticks ahead are so many at least, no
-- path ends below the limit
module _ (plan : Plan) (limits : Limits) (consistent : IsConsistent plan limits.ahead) (trip : Trip) where
  rest_bound : (target : Target) (leave : ℤ) (steps : List Step) → IsRest plan trip target leave steps → (leave +ℤ ahead_of limits.ahead target) ≤ℤ last_leave plan target leave steps
  rest_bound End leave [] rest = omega (arith, ints)
  rest_bound End leave (step ∷ steps) rest = absurd rest
  rest_bound (To place) leave [] rest = absurd rest
  rest_bound (To place) leave (step ∷ steps) rest =
      let here = consistent place step.number rest.0.0 in
      let wait : (leave +ℤ least_wait (place_at plan place)) ≤ℤ step.enter = waited (place_at plan place) (place_at plan place).standing leave step.enter refl rest.1 in
      let behind : ((step.enter +ℤ (move_at plan place step.number).run) +ℤ ahead_of limits.ahead (target_of plan place step)) ≤ℤ last_leave plan (target_of plan place step) (leave_of plan place step) steps = rest_bound (target_of plan place step) (leave_of plan place step) steps rest.2 in
      omega (arith, ints)

  module _ (book : Book) (Held : ℕ → ℤ → Type 0) (closed : IsClosedBelow plan limits trip book Held) where
    low_of : (target : Target) (leave : ℤ) (steps : List Step) → IsRest plan trip target leave steps → last_leave plan target leave steps <ℤ limits.below → IsBelow limits target leave
    low_of target leave steps rest early = let bound = rest_bound target leave steps rest in omega (arith, ints)

    rest_late : (target : Target) (leave : ℤ) (steps : List Step) → Admits trip Held target leave → IsRest plan trip target leave steps → RestFits plan book target leave steps → last_leave plan target leave steps <ℤ limits.below → ⊥
    rest_late End leave [] admitted rest fits early = admitted rest
    rest_late End leave (step ∷ steps) admitted rest fits early = rest
    rest_late (To place) leave [] admitted rest fits early = rest
    rest_late (To place) leave (step ∷ steps) admitted rest fits early =
        let low = low_of (target_of plan place step) (leave_of plan place step) steps rest.2 early in
        rest_late (target_of plan place step) (leave_of plan place step) steps (closed.moves place leave step admitted rest.1 fits.0 (rest.0, fits.1) low) rest.2 fits.2 early

    path_not_early : (steps : List Step) → IsPath plan trip steps → PathFits plan book steps → arrival plan steps <ℤ limits.below → ⊥
    path_not_early [] path fits early = path
    path_not_early (step ∷ steps) path fits early =
        let low = low_of (target_of plan 0 step) (leave_of plan 0 step) steps path.2 early in
        rest_late (target_of plan 0 step) (leave_of plan 0 step) steps (closed.start step path.1 (path.0, fits.0) low) path.2 fits.1 early

    pub not_below : (steps : List Step) → IsPath plan trip steps → PathFits plan book steps → limits.below ≤ℤ arrival plan steps
    not_below steps path fits = by_lt_z (arrival plan steps) limits.below (λ early. absurd (path_not_early steps path fits early)) (λ late. late)

-- members closed below a limit for the trip that arrives before a tick below it: no path arrives before that tick
pub not_before : (plan : Plan) (limits : Limits) → IsConsistent plan limits.ahead → (trip : Trip) (book : Book) (Held : ℕ → ℤ → Type 0) (tick : ℤ) → tick ≤ℤ limits.below → IsClosedBelow plan limits (before trip tick) book Held → (steps : List Step) → IsPath plan trip steps → PathFits plan book steps → tick ≤ℤ arrival plan steps
not_before plan limits consistent trip book Held tick low closed steps path fits =
    by_lt_z (arrival plan steps) tick
    (λ early. let late = not_below plan limits consistent (before trip tick) book Held closed steps (path_before plan trip tick steps path early) fits in omega (arith, ints))
    (λ late. late)

-- a path leaves last by the horizon, in the window of arrival
module _ (plan : Plan) (trip : Trip) where
  rest_within : (target : Target) (leave : ℤ) (steps : List Step) → leave ≤ℤ plan.horizon → IsRest plan trip target leave steps → (last_leave plan target leave steps ≤ℤ plan.horizon) × Holds trip.arrive (last_leave plan target leave steps)
  rest_within End leave [] soon rest = (soon, rest)
  rest_within End leave (step ∷ steps) soon rest = absurd rest
  rest_within (To place) leave [] soon rest = absurd rest
  rest_within (To place) leave (step ∷ steps) soon rest = rest_within (target_of plan place step) (leave_of plan place step) steps rest.0.2 rest.2

  pub path_within : (steps : List Step) → IsPath plan trip steps → (arrival plan steps ≤ℤ plan.horizon) × Holds trip.arrive (arrival plan steps)
  path_within [] path = absurd path
  path_within (step ∷ steps) path = rest_within (target_of plan 0 step) (leave_of plan 0 step) steps path.0.2 path.2
