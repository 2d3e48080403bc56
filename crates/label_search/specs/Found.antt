-- What a search finds that keeps no members.
use Rattle.std.specs.Prelude.{ℤ, ◌≤ℤ◌, List, Option, None, Some}
use Rattle.label_search.specs.declared.plans.Plan.{Plan}
use Rattle.label_search.specs.declared.plans.Trip.{Trip}
use Rattle.label_search.specs.declared.plans.Step.{Step}
use Rattle.label_search.specs.declared.finds.Finding.{Finding}
use Rattle.label_search.specs.declared.finds.Finding.TheVariants.{Found, NoPath}
use Rattle.label_search.specs.Free.{Book}
use Rattle.label_search.specs.Paths.{IsPath, PathFits, Possible, arrival}

-- no path that fits arrives before the tick
abbrev pub ArriveFrom : Plan → Trip → Book → ℤ → Type 0
ArriveFrom plan trip book tick = (other : List Step) → IsPath plan trip other
    → PathFits plan book other → tick ≤ℤ arrival plan other

-- a path that fits, none of which arrives earlier
pub record IsLeast (plan : Plan) (trip : Trip) (book : Book) (steps : List Step) : Type 0 where
  pub path : IsPath plan trip steps
  pub fits : PathFits plan book steps
  pub least : ArriveFrom plan trip book (arrival plan steps)

abbrev pub IsFinding : Plan → Trip → Book → Finding → Type 0
IsFinding plan trip book (Found steps) = IsLeast plan trip book steps
IsFinding plan trip book NoPath = ¬ Possible plan trip book

abbrev pub IsFoundBelow : Plan → Trip → Book → ℤ → Option (List Step) → Type 0
IsFoundBelow plan trip book below None = ArriveFrom plan trip book below
IsFoundBelow plan trip book below (Some steps) = IsLeast plan trip book steps
