-- What is left of a path, from a label on.
use Rattle.std.specs.Prelude.{◌≡◌, ℕ, ℤ, List, [], ◌∷◌, Bool, true, false}
use Rattle.label_search.specs.declared.plans.Target.TheVariants.{Place as To}
use Rattle.label_search.specs.declared.plans.Plan.{Plan}
use Rattle.label_search.specs.declared.plans.Trip.{Trip}
use Rattle.label_search.specs.declared.plans.Step.{Step}
use Rattle.label_search.specs.Free.{Book}
use Rattle.label_search.specs.Paths.{IsMove, IsRest, MoveFits, RestFits, last_leave, target_of}
use Rattle.label_search.specs.Paths.{leave_of}

-- the rest of a path that fits and arrives at `last`, from a place that was reached at a tick
pub record FollowsArrival (plan : Plan) (trip : Trip) (book : Book) (last : ℤ) (place : ℕ)
    (tick : ℤ) (steps : List Step) : Type 0 where
  pub rest : IsRest plan trip (To place) tick steps
  pub fits : RestFits plan book (To place) tick steps
  pub arrives : last_leave plan (To place) tick steps ≡ last

-- the same from a place that is left at a tick
pub record FollowsLeave (plan : Plan) (trip : Trip) (book : Book) (last : ℤ) (place : ℕ) (tick : ℤ)
    (step : Step) (steps : List Step) : Type 0 where
  pub enters : step.enter ≡ tick
  pub move : IsMove plan place step
  pub move_fits : MoveFits plan book place step
  pub rest : IsRest plan trip (target_of plan place step) (leave_of plan place step) steps
  pub fits : RestFits plan book (target_of plan place step) (leave_of plan place step) steps
  pub arrives : last_leave plan (target_of plan place step) (leave_of plan place step) steps ≡ last

abbrev pub Follows : Plan → Trip → Book → ℤ → ℕ → Bool → ℤ → List Step → Type 0
Follows plan trip book last place false tick steps = FollowsArrival plan trip book last place tick
    steps
Follows plan trip book last place true tick [] = ⊥
Follows plan trip book last place true tick (step ∷ steps) = FollowsLeave plan trip book last
    place tick step steps
