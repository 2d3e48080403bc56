use Rattle.std.proofs.Common.{subst, sym}
use Rattle.path_recover.specs.history.Legal.{Joins, Register}
use Rattle.check_command.specs.Replays.{all_of}
use Rattle.check_command.proofs.Replaying.{joins_next}
use Rattle.check_command.proofs.replays.go_on.Goals as goal

pub push-requires-clause-joins : goal.push-requires-clause-joins
push-requires-clause-joins c =
    subst (λ (h : Register). Joins h.timetable h.entries c.in-Some.entry) (sym c.in_ok-reserve.ensures.ok)
    (joins_next c.args.history.now.timetable c.loop-ahead.history.timetable (all_of c.args.history.now c.args.ahead.now.items) c.loop-ahead.history.entries c.loop-ahead.ahead.items c.pop.new.self.items c.in-Some.entry
    c.requires.legal c.loop-ahead.invariant.timetable c.loop-ahead.invariant.all c.in-Some.ensures.items)
