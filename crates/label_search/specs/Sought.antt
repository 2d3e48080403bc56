-- What a search answers.
use Rattle.std.specs.Prelude.{◌≤ℤ◌, List, All}
use Rattle.label_search.specs.declared.plans.Plan.{Plan}
use Rattle.label_search.specs.declared.plans.Trip.{Trip}
use Rattle.label_search.specs.declared.plans.Step.{Step}
use Rattle.label_search.specs.declared.plans.Member.{Member}
use Rattle.label_search.specs.declared.seeks.Sought.{Sought}
use Rattle.label_search.specs.declared.seeks.Sought.TheVariants.{Found, NoPath}
use Rattle.label_search.specs.Free.{Book}
use Rattle.label_search.specs.Paths.{IsPath, PathFits, Possible, arrival}
use Rattle.label_search.specs.declared.limits.Limits.{Limits}
use Rattle.label_search.specs.Closed.{IsClosed, IsClosedBelow, IsHeld, IsMemberOf, before}
use Rattle.label_search.specs.Found.{IsLeast, ArriveFrom}

-- a path that fits, none of which arrives earlier, with members that are closed for what would
pub record IsFound (plan : Plan) (trip : Trip) (book : Book) (steps : List Step)
    (members : List Member) : Type 0 where
  pub path : IsPath plan trip steps
  pub fits : PathFits plan book steps
  pub least : (other : List Step) → IsPath plan trip other → PathFits plan book other
      → arrival plan steps ≤ℤ arrival plan other
  pub closed : IsClosed plan (before trip (arrival plan steps)) book members
  pub within : All (IsMemberOf plan) members

pub record IsNone (plan : Plan) (trip : Trip) (book : Book) (members : List Member) : Type 0 where
  pub none : ¬ Possible plan trip book
  pub closed : IsClosed plan trip book members
  pub within : All (IsMemberOf plan) members

abbrev pub IsSought : Plan → Trip → Book → Sought → Type 0
IsSought plan trip book (Found steps members) = IsFound plan trip book steps members
IsSought plan trip book (NoPath members) = IsNone plan trip book members

-- the same where members are closed below a limit, and no path ends below it where none is found
abbrev pub IsSearched : Plan → Trip → Book → Limits → Sought → Type 0
IsSearched plan trip book limits (Found steps members) = IsLeast plan trip book steps
    × IsClosedBelow plan limits (before trip (arrival plan steps)) book (IsHeld members)
    × All (IsMemberOf plan) members
IsSearched plan trip book limits (NoPath members) = ArriveFrom plan trip book limits.below
    × IsClosedBelow plan limits trip book (IsHeld members) × All (IsMemberOf plan) members
