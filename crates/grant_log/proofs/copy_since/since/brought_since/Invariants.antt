use Rattle.std.proofs.Common.{◌≡◌, ◌-◌, drop, take}
use Rattle.grant_log.specs.Live.{live_from}
use Rattle.grant_log.proofs.copy_since.since.brought_since.Given as goal

abbrev pub invariant-loop-at : goal.invariant-loop-at
invariant-loop-at l = l.all.items ≡ live_from l.history.timetable l.history.entries l.front (take (l.at - l.front) (drop l.front l.history.entries))
