use Rattle.std.proofs.Common.{subst}
use Rattle.label_search.specs.Found.{IsFoundBelow}
use Rattle.label_search.proofs.Below.{none_past}
use Rattle.label_search.proofs.finds.find_lent.Goals as goal

pub returns-in_default : goal.returns-in_default
returns-in_default c =
    let from = subst (IsFoundBelow c.args.plan.now c.args.trip.now c.args.book.now c.limits_behind-limits.result.below) c.in_default.is c.in_ok-found.ensures in
    none_past c.args.plan.now c.args.trip.now c.args.book.now c.limits_behind-limits.result.below from c.limits_behind-limits.ensures.past
