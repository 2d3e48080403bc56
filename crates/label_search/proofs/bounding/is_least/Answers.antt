use Rattle.std.proofs.Common.{subst, sym}
use Rattle.std.specs.Prelude.{◌+ℤ◌, ◌≤ℤ◌}
use Rattle.label_search.specs.Limits.{least_wait}
use Rattle.label_search.specs.Plans.{IsShort}
use Rattle.label_search.proofs.bounding.is_least.Goals as goal

pub is_within-requires-clause-run : goal.is_within-requires-clause-run
is_within-requires-clause-run c = subst IsShort (sym c.run_of.ensures) c.requires.run

pub returns : goal.returns
returns c holds =
    subst (λ run. c.args.here.now.ticks ≤ℤ ((least_wait c.args.place.now +ℤ run) +ℤ c.args.there.now.ticks)) c.run_of.ensures
    (subst (λ wait. c.args.here.now.ticks ≤ℤ ((wait +ℤ c.run_of.result.ticks) +ℤ c.args.there.now.ticks)) c.least_wait.ensures.value (c.is_within.ensures holds))
