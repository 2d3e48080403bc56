use Rattle.std.proofs.Common.{sym, subst}
use Rattle.path_recover.specs.history.Following.{AreLive}
use Rattle.carry_command.proofs.carried_history.holding.roomy_copy_of.Goals as goal

pub returns-clause-live : goal.returns-clause-live
returns-clause-live c = subst (λ l. AreLive c.args.history.now.timetable l c.args.history.now.entries) (sym c.in_ok-reserve_each.ensures.held) c.in_ok-book.ensures.live
