use Rattle.std.specs.Prelude.{ℕ, ℤ, Bool, take}
use Rattle.label_search.specs.Labels.{IsIn}
use Rattle.label_search.specs.Search.{IsSearch, IsFurther, IsExplored}
use Rattle.label_search.proofs.searches.explore_fronts.Given as goal

abbrev pub invariant-loop-front : goal.invariant-loop-front
invariant-loop-front l = record {
  search : IsSearch l.plan l.trip l.book l.search;
  further : IsFurther l.fn.search l.search;
  explored : (place : ℕ) (ready : Bool) (tick : ℤ) → IsIn (take l.front-index l.fronts) place ready tick → IsExplored l.plan l.trip l.book l.search place ready tick;
}
