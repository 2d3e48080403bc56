use Rattle.std.proofs.Common.{sym, subst}
use Rattle.occupation_book.specs.Held.{held}
use Rattle.grant_log.specs.Following.{AreLive}
use Rattle.grant_log.specs.Legal.{Register}
use Rattle.path_recover.proofs.history_reading.joins.admit.Goals as goal

pub take_any-requires-clause-live : goal.take_any-requires-clause-live
take_any-requires-clause-live c =
    subst (λ (h : Register). AreLive h.timetable (held c.args.book.now) h.entries) (sym c.in-Ok.ensures.ok) c.requires.live

pub returns-in-Ok-true-clause-live : goal.returns-in-Ok-true-clause-live
returns-in-Ok-true-clause-live c = c.in-Ok-true.ensures.live c.in-Ok-true.field-0-test
