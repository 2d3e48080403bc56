use Rattle.path_labels.specs.ChartCourses.{listed_along}
use Rattle.path_labels.proofs.Steps.{AreTold}
use Rattle.path_labels.proofs.chart_courses.told_over.Given as goal

abbrev pub invariant-loop-step : goal.invariant-loop-step
invariant-loop-step l = AreTold (listed_along l.course) l.plan l.steps l.step-index l.target l.runs
