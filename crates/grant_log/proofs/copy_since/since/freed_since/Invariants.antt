use Rattle.grant_log.specs.Since.{AreFreedBelow}
use Rattle.grant_log.proofs.copy_since.since.freed_since.Given as goal

abbrev pub invariant-loop-by : goal.invariant-loop-by
invariant-loop-by l = AreFreedBelow l.history.timetable l.history.entries l.front l.by l.all.items
