use Rattle.std.proofs.Common.{sym, subst}
use Rattle.ask_turns.proofs.Guided.{own_chart}
use Rattle.ask_turns.specs.labels.ChartCourses.{IsChartCourse}
use Rattle.ask_turns.specs.labels.TrainCharts.{IsChartOf}
use Rattle.ask_turns.specs.tails.Following.{AreFollowers}
use Rattle.ask_turns.specs.Turns.{timetable_at}
use Rattle.rail_types.specs.declared.tracks.Network.{Network}
use Rattle.rail_types.specs.Timetables.{Timetable}
use Rattle.line_answers.proofs.Timetabled.{at_timetable, from_timetable}
use Rattle.line_answers.proofs.asks.chart_course_of.Goals as goal

-- ---- the chart does not bound the places

pub returns-then-not-is_narrow-clause-copy : goal.returns-then-not-is_narrow-clause-copy
returns-then-not-is_narrow-clause-copy g c entries copy =
    let timetable : Timetable = timetable_at c.args.shared.now.gate in
    c.keep_chart.ensures.copy timetable entries
    (own_chart timetable.net timetable.settings c.args.request.now.train c.in-Some.chart c.in-Some.ensures.chart)
    (c.chart_of.ensures.copy entries copy)

-- ---- it does

pub of-requires-clause-followers : goal.of-requires-clause-followers
of-requires-clause-followers g c =
    subst (λ (net : Network). AreFollowers net c.args.shared.now.followers) (sym c.network_of-net.ensures)
    c.requires.shared.followers

pub of-requires-clause-chart : goal.of-requires-clause-chart
of-requires-clause-chart g c =
    from_timetable (λ net settings. IsChartOf net settings c.args.request.now.train c.in-Some.chart)
    (timetable_at c.args.shared.now.gate) c.network_of-net.result.now c.args.shared.now.settings
    c.network_of-net.ensures c.requires.shared.settings c.in-Some.ensures.chart

pub of-requires-clause-few : goal.of-requires-clause-few
of-requires-clause-few g c = c.is_narrow.ensures c.if-not-is_narrow.false

pub returns-clause-course : goal.returns-clause-course
returns-clause-course g c =
    at_timetable (λ net settings. IsChartCourse net settings c.args.request.now c.in-Ok.course)
    (timetable_at c.args.shared.now.gate) c.network_of-net.result.now c.args.shared.now.settings
    c.network_of-net.ensures c.requires.shared.settings c.in-Ok.ensures.course
