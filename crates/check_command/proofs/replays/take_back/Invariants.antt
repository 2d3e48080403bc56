use Rattle.std.proofs.Common.{◌≡◌, ◌≤◌, length}
use Rattle.check_command.specs.Replays.{all_of}
use Rattle.check_command.proofs.replays.take_back.Given as goal

abbrev pub invariant-loop-history : goal.invariant-loop-history
invariant-loop-history l = record {
  timetable : l.history.timetable ≡ l.fn.history.timetable;
  all : all_of l.history l.ahead.items ≡ all_of l.fn.history l.fn.ahead.items;
  front : l.front ≤ length l.fn.history.entries → l.front ≤ length l.history.entries;
}

abbrev pub decreases-loop-history : goal.decreases-loop-history
decreases-loop-history l = length l.history.entries
