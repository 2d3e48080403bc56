use Rattle.std.specs.Prelude.{reverse}
use Rattle.label_search.proofs.Rebuilding.{IsRebuilt}
use Rattle.label_search.proofs.paths.push_back.Given as goal

abbrev pub invariant-loop-arrivals : goal.invariant-loop-arrivals
invariant-loop-arrivals l = IsRebuilt l.plan l.trip l.book l.search l.ending.arrive.from l.until l.at (reverse l.steps.items)

abbrev pub decreases-loop-arrivals : goal.decreases-loop-arrivals
decreases-loop-arrivals l = l.until
