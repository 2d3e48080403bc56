use Rattle.std.proofs.Common.{sym, subst}
use Rattle.occupation_book.specs.Held.{held}
use Rattle.grant_log.specs.Following.{AreLive}
use Rattle.path_recover.proofs.history_reading.joins.follow_change.Goals as goal

pub follow-requires-clause-live : goal.follow-requires-clause-live
follow-requires-clause-live c =
    let history = c.args.history.now in
    subst (λ l. AreLive history.timetable l history.entries) (sym c.reserve_change.ensures.held) c.requires.live

pub returns-clause-live : goal.returns-clause-live
returns-clause-live c =
    let history = c.args.history.now in
    let before = subst (λ l. AreLive history.timetable l history.entries) (sym c.reserve_change.ensures.held) c.requires.live in
    c.live_claims_follow.ensures.follow history.timetable history.entries c.args.entry.now (held c.reserve_change.new.book) (held c.follow.new.book) before c.follow.ensures.follow
