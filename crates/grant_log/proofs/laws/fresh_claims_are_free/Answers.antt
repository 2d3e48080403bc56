use Rattle.grant_log.proofs.Followed.{fresh_free, free_again}
use Rattle.grant_log.proofs.laws.fresh_claims_are_free.Goals as goal

pub returns-clause-fresh : goal.returns-clause-fresh
returns-clause-fresh c timetable entries entry held =
    let laws = c.first_clashes_are_first.ensures in
    fresh_free laws.none laws.some timetable entries entry held

pub returns-clause-again : goal.returns-clause-again
returns-clause-again c timetable entries entry held at freed planned legal joins live =
    let laws = c.first_clashes_are_first.ensures in
    free_again laws.none laws.some timetable entries entry held at freed planned legal joins live
