use Rattle.std.proofs.Common.{rules}
use Rattle.grant_log.proofs.copy_since.since.claims_at.Goals as goal

pub claims_of-requires : goal.claims_of-requires
claims_of-requires c =
    let joins = c.front.ensures.legal c.args.at c.in-Some.entry.now (search rules) in
    c.claims_are_on_the_network.ensures.stairway c.args.history.now.timetable c.in-Some.entry.now c.net.ensures.timetable joins.in_range (c.grants_keep_their_requests.ensures.requests c.args.history.now.timetable c.args.history.now.entries c.args.at c.in-Some.entry.now c.front.ensures.legal (search rules))
