use Rattle.std.proofs.Common.{◌≡◌, ◌≤◌, ◌-◌, length}
use Rattle.check_command.specs.Counts.{AreCounted}
use Rattle.check_command.specs.Doubts.{HasGood}
use Rattle.check_command.specs.Replays.{IsUp, entries_of}
use Rattle.check_command.proofs.checks.check_all.Given as goal

abbrev pub invariant-loop-at : goal.invariant-loop-at
invariant-loop-at l = record {
  timetable : l.replay.history.timetable ≡ l.fn.replay.history.timetable;
  all : entries_of l.replay ≡ entries_of l.fn.replay;
  up : IsUp l.replay;
  counts : AreCounted l.fn.replay.history.timetable.net l.counts.kept.items;
  within : l.at ≤ length l.bytes;
  few : l.position ≤ l.at;
  good : HasGood l.known l.fn.replay.history.timetable (entries_of l.fn.replay) l.bytes l.at l.position;
}

abbrev pub decreases-loop-at : goal.decreases-loop-at
decreases-loop-at l = length l.bytes - l.at
