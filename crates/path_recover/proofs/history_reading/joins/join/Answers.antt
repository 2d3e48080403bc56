use Rattle.std.proofs.Common.{sym, subst}
use Rattle.occupation_book.specs.Held.{held}
use Rattle.grant_log.specs.Following.{AreLive}
use Rattle.grant_log.specs.Legal.{Register}
use Rattle.path_recover.proofs.history_reading.joins.join.Goals as goal

pub returns-clause-live : goal.returns-clause-live
returns-clause-live c =
    subst (λ (h : Register). AreLive h.timetable (held c.admit.new.book) h.entries) (sym c.push.ensures) c.in_ok-admit.ensures.live
