use Rattle.std.proofs.Common.{subst}
use Rattle.label_search.specs.Sought.{IsSearched}
use Rattle.label_search.proofs.Seeking.{sought_of_searched, unlimited_far}
use Rattle.label_search.proofs.seeks.seek_lent.Goals as goal

pub returns : goal.returns
returns c =
    sought_of_searched c.args.plan.now c.args.trip.now c.args.book.now c.no_limits-limits.result (unlimited_far c.args.plan.now c.no_limits-limits.result c.requires.plan.horizon c.no_limits-limits.ensures.ahead c.no_limits-limits.ensures.below) c.in_ok-sought.sought
    (subst (λ limits. IsSearched c.args.plan.now c.args.trip.now c.args.book.now limits c.in_ok-sought.sought) c.listed.ensures c.in_ok-sought.ensures)
