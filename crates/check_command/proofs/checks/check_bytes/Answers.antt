use Rattle.check_command.specs.Replays.{entries_of}
use Rattle.check_command.proofs.Replaying.{legal_same}
use Rattle.check_command.proofs.checks.check_bytes.Goals as goal

pub check_all-judged-requires-clause-legal : goal.check_all-judged-requires-clause-legal
check_all-judged-requires-clause-legal c =
    legal_same c.args.history.timetable c.in_ok-replay.replay.history.timetable c.args.history.entries (entries_of c.in_ok-replay.replay) c.in_ok-replay.ensures.timetable c.in_ok-replay.ensures.all c.front-front.ensures.legal
