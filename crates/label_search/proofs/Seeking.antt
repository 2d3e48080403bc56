-- What a search that ended has shown, with its members.
use Rattle.std.proofs.Common.{◌≡◌, ℕ, List, [], length, false, None, Some, sym, subst, arith, All}
use Rattle.std.specs.Prelude.{ℤ, ◌≤ℤ◌}
use Rattle.std.proofs.lemmas.Int.{ints}
use Rattle.rail_types.specs.declared.limits.TheConstants.{FAR_TICK}
use Rattle.label_search.specs.declared.plans.Plan.{Plan}
use Rattle.label_search.specs.declared.plans.Trip.{Trip}
use Rattle.label_search.specs.declared.plans.Step.{Step}
use Rattle.label_search.specs.declared.plans.Member.{Member}
use Rattle.label_search.specs.declared.limits.Limits.{Limits}
use Rattle.label_search.specs.declared.searches.Ending.{Ending}
use Rattle.label_search.specs.declared.searches.Search.{Search}
use Rattle.label_search.specs.declared.seeks.Sought.{Sought}
use Rattle.label_search.specs.declared.seeks.Sought.TheVariants.{Found, NoPath}
use Rattle.label_search.specs.Free.{Book}
use Rattle.label_search.specs.Plans.{IsPlan, IsShort}
use Rattle.label_search.specs.Paths.{IsPath, PathFits, arrival}
use Rattle.label_search.specs.Closed.{IsHeld, IsMemberOf}
use Rattle.label_search.specs.Limits.{IsConsistent, IsUnlimited}
use Rattle.label_search.specs.Labels.{IsReached}
use Rattle.label_search.specs.Search.{IsSearch, IsStarted, IsExploredTo, IsEnding}
use Rattle.label_search.specs.Sought.{IsSearched, IsSought}
use Rattle.label_search.proofs.Below.{closed_none, closed_found, none_below, found_below}
use Rattle.label_search.proofs.Exclusion.{excluded}
use Rattle.label_search.proofs.Limiting.{closed_held, closed_of_unlimited, unlimited_none}
use Rattle.label_search.proofs.Within.{members_within}

module _ (plan : Plan) (trip : Trip) (book : Book) (is : IsPlan plan book) (limits : Limits) (search : Search) (same : search.limits ≡ limits) (sound : IsSearch plan trip book search) (started : IsStarted plan trip search) (explored : IsExploredTo plan trip book (λ one. length one.labels.labels) search) (consistent : IsConsistent plan limits.ahead) (members : List Member) (held : (place : ℕ) (tick : ℤ) → IsReached search.labels.labels place false tick → IsHeld members place tick) (reached : (place : ℕ) (tick : ℤ) → IsHeld members place tick → IsReached search.labels.labels place false tick) (some : All (λ member. member.window.from ≤ℤ member.window.to) members) where
  known : IsConsistent plan search.limits.ahead
  known = subst (λ l. IsConsistent plan l.ahead) (sym same) consistent

  within : All (IsMemberOf plan) members
  within = members_within plan trip book search sound members reached some

  pub none_searched : search.best ≡ None → IsSearched plan trip book limits (NoPath members)
  none_searched none = subst (λ l. IsSearched plan trip book l (NoPath members)) same (
    none_below plan trip book is search sound started explored known none,
    closed_held plan search.limits trip book members (λ place tick. IsReached search.labels.labels place false tick) held reached (closed_none plan trip book is search sound started explored known none),
    within,
  )

  pub found_searched : (ending : Ending) → search.best ≡ Some ending → IsEnding plan trip book search.labels.labels ending → (steps : List Step) → IsPath plan trip steps → PathFits plan book steps → arrival plan steps ≡ ending.arrive.from → IsSearched plan trip book limits (Found steps members)
  found_searched ending best ends steps path fits arrives = subst (λ l. IsSearched plan trip book l (Found steps members)) same (
    found_below plan trip book is search sound started explored known ending best ends steps path fits arrives,
    closed_held plan search.limits _ book members (λ place tick. IsReached search.labels.labels place false tick) held reached (closed_found plan trip book is search sound started explored known ending best ends (arrival plan steps) arrives),
    within,
  )

-- below a limit behind all
module _ (plan : Plan) (trip : Trip) (book : Book) (limits : Limits) (all : IsUnlimited plan limits) where
  pub sought_of_searched : (sought : Sought) → IsSearched plan trip book limits sought → IsSought plan trip book sought
  sought_of_searched (Found steps members) searched = record {
    path = searched.0.path;
    fits = searched.0.fits;
    least = searched.0.least;
    closed = closed_of_unlimited plan limits _ book members all searched.1;
    within = searched.2;
  }
  sought_of_searched (NoPath members) searched =
      let closed = closed_of_unlimited plan limits trip book members all searched.1 in
      record { none = excluded plan trip book members closed; closed = closed; within = searched.2 }

pub unlimited_far : (plan : Plan) (limits : Limits) → IsShort plan.horizon → limits.ahead ≡ [] → limits.below ≡ FAR_TICK → IsUnlimited plan limits
unlimited_far plan limits short none far = unlimited_none plan limits none (omega (arith, ints, short.1))
