-- The chart that a course is over.
use Rattle.std.proofs.Common.{◌≡◌, sym, subst}
use Rattle.path_labels.specs.declared.chart_courses.ChartCourse.{ChartCourse}
use Rattle.path_labels.specs.declared.train_charts.TrainChart.{TrainChart}
use Rattle.path_labels.specs.ChartCourses.{IsChartCourse}
use Rattle.path_labels.specs.TrainCharts.{IsChartOf}
use Rattle.rail_types.specs.declared.entries.Settings.{Settings}
use Rattle.rail_types.specs.declared.tracks.Network.{Network}
use Rattle.rail_types.specs.declared.trains.Request.{Request}
use Rattle.rail_types.specs.declared.trains.Train.{Train}

-- the chart of a train is that of the train which it names
pub own_chart : (net : Network) (settings : Settings) (train : Train) (chart : TrainChart)
    → IsChartOf net settings train chart → IsChartOf net settings chart.train chart
own_chart net settings train chart is =
    subst (λ (one : Train). IsChartOf net settings one chart) (sym is.train_is) is

pub course_chart : (net : Network) (settings : Settings) (request : Request) (course : ChartCourse)
    (chart : TrainChart) → chart ≡ course.chart → IsChartCourse net settings request course
    → IsChartOf net settings chart.train chart
course_chart net settings request course chart same is =
    subst (λ (one : TrainChart). IsChartOf net settings one.train one) (sym same)
    (own_chart net settings request.train course.chart is.over.chart_is)
