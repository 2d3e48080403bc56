use Rattle.std.proofs.Common.{◌≡◌}
use Rattle.rail_types.specs.Timetables.{Timetable}
use Rattle.path_commit.specs.Runs.{AreInRange}
use Rattle.tests_doubles.proofs.copies.all_sent.Given as goal

abbrev pub invariant-loop-body : goal.invariant-loop-body
invariant-loop-body l = (timetable : Timetable) → timetable.net ≡ l.net → AreInRange timetable l.all.items
