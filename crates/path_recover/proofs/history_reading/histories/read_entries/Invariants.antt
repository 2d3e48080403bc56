use Rattle.std.proofs.Common.{length}
use Rattle.path_recover.proofs.Walked.{Walked}
use Rattle.path_recover.proofs.history_reading.histories.read_entries.Given as goal

abbrev pub invariant-entries : goal.invariant-entries
invariant-entries l = Walked l.fn.history.timetable l.version l.left l.history l.book l.fields

abbrev pub decreases-entries : goal.decreases-entries
decreases-entries l = length l.fields.left
