use Rattle.std.proofs.Common.{arith}
use Rattle.std.specs.Prelude.{reverse}
use Rattle.path_recover.specs.claims.Held.{held}
use Rattle.check_command.proofs.Replaying.{live_on}
use Rattle.check_command.proofs.replays.go_ahead.Goals as goal

pub bring_up-requires-clause-live : goal.bring_up-requires-clause-live
bring_up-requires-clause-live c =
    let old = c.args.replay.now in
    let stands = c.in_ok-go_on.ensures.front c.requires.behind in
    live_on old.history.timetable c.go_on.new.history.timetable (held old.book) old.history.entries c.go_on.new.history.entries (reverse old.ahead.items) (reverse c.go_on.new.ahead.items) c.front-stood.result
    c.in_ok-go_on.ensures.timetable c.front-stood.ensures.front c.requires.up.live c.in_ok-go_on.ensures.all (omega (arith, stands, c.requires.behind))
