use Rattle.std.proofs.Common.{◌≡◌, ◌≤◌, ◌-◌, length}
use Rattle.check_command.specs.Replays.{all_of}
use Rattle.check_command.proofs.replays.go_on.Given as goal

abbrev pub invariant-loop-ahead : goal.invariant-loop-ahead
invariant-loop-ahead l = record {
  timetable : l.history.timetable ≡ l.fn.history.timetable;
  all : all_of l.history l.ahead.items ≡ all_of l.fn.history l.fn.ahead.items;
  front : length l.fn.history.entries ≤ l.front → length l.history.entries ≤ l.front;
}

abbrev pub decreases-loop-ahead : goal.decreases-loop-ahead
decreases-loop-ahead l = l.front - length l.history.entries
