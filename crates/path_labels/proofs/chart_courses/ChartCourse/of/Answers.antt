use Rattle.std.proofs.Common.{sym, subst}
use Rattle.tail_states.specs.Spots.{AreFewEnough}
use Rattle.path_labels.proofs.Shortness.{stays_chart}
use Rattle.path_labels.proofs.chart_courses.ChartCourse.of.Goals as goal

pub returns-clause-course : goal.returns-clause-course
returns-clause-course c = record {
  over = record {
    chart_is =
        stays_chart c.args.net.now c.args.settings.now c.args.request.now.train c.args.chart c.ways_over.new.chart
        c.ways_over.ensures.train c.ways_over.ensures.spots c.ways_over.ensures.chart c.ways_over.ensures.kept c.requires.chart;
    few = subst (AreFewEnough c.args.request.now) (sym c.ways_over.ensures.spots) c.requires.few;
    starts_are = c.in_ok-ways.ensures.starts;
    calls_are = c.in_ok-ways.ensures.calls;
  };
  kept = c.in_ok-ways.ensures.numbers;
  left = c.in_ok-ways.ensures.rests;
}
