use Rattle.path_labels.proofs.Calling.{AreFirstCalls}
use Rattle.path_labels.proofs.chart_courses.calls_of.Given as goal

abbrev pub invariant-loop-made : goal.invariant-loop-made
invariant-loop-made l = AreFirstCalls l.net l.request l.made l.calls
