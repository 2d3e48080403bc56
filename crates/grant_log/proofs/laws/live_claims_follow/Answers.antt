use Rattle.std.proofs.Common.{refl}
use Rattle.grant_log.proofs.Followed.{back_by, follow_by}
use Rattle.grant_log.proofs.Legals.{fresh_joins}
use Rattle.grant_log.proofs.laws.live_claims_follow.Goals as goal

pub returns-clause-follow : goal.returns-clause-follow
returns-clause-follow c timetable entries entry old new live follow = follow_by timetable entries entry entry.deed refl old new live follow

pub returns-clause-back : goal.returns-clause-back
returns-clause-back c timetable entries entry old new joins live back =
    let laws = c.first_clashes_are_first.ensures in
    back_by timetable entries entry entry.deed refl (fresh_joins laws.none laws.some timetable entries entry joins.fresh).1 old new live back
