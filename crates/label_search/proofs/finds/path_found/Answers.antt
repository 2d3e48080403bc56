use Rattle.std.proofs.Common.{IfSome, subst}
use Rattle.label_search.specs.Search.{IsEnding}
use Rattle.label_search.specs.Queues.{AreDueFrom}
use Rattle.label_search.specs.Pending.{stop_at}
use Rattle.label_search.proofs.Arriving.{none_below, found_first}
use Rattle.label_search.proofs.finds.path_found.Goals as goal

pub returns-in_default : goal.returns-in_default
returns-in_default c =
    let settled = c.requires.settled in
    let due = subst (λ best. AreDueFrom settled.queue (stop_at c.args.search.now.limits.below best)) c.in_default.is settled.due in
    none_below c.args.plan.now c.args.trip.now c.args.book.now c.requires.plan c.args.search.now c.requires.search c.requires.started settled.queue settled.in_hand c.requires.consistent c.in_default.is due

pub returns : goal.returns
returns c =
    let settled = c.requires.settled in
    let due = subst (λ best. AreDueFrom settled.queue (stop_at c.args.search.now.limits.below best)) c.in-Some.is settled.due in
    let ends = subst (λ best. IfSome best (IsEnding c.args.plan.now c.args.trip.now c.args.book.now c.args.search.now.labels.labels)) c.in-Some.is c.requires.search.best in
    found_first c.args.plan.now c.args.trip.now c.args.book.now c.requires.plan c.args.search.now c.requires.search c.requires.started settled.queue settled.in_hand c.requires.consistent c.in-Some.ending c.in-Some.is ends due _ c.in_ok-steps.ensures.path c.in_ok-steps.ensures.fits c.in_ok-steps.ensures.arrival
