use Rattle.grant_log.specs.Live.{live_claims}
use Rattle.path_commit.proofs.Standing.{LastBelow}
use Rattle.path_commit.proofs.clashes.last_clash.Given as goal

abbrev pub invariant-loop-at : goal.invariant-loop-at
invariant-loop-at l = LastBelow (live_claims l.history.timetable l.history.entries) l.claims l.from l.at l.last
