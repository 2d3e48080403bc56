use Rattle.path_labels.proofs.Shortness.{dwells_short, stays_chart, ways_short}
use Rattle.path_labels.proofs.chart_courses.ways_over.Goals as goal

pub numbers_of_calls-requires-clause-runs : goal.numbers_of_calls-requires-clause-runs
numbers_of_calls-requires-clause-runs c = ways_short c.args.net.now c.args.settings.now c.args.request.now.train c.args.chart.now c.requires.chart

pub starts_with_rests-requires-clause-chart : goal.starts_with_rests-requires-clause-chart
starts_with_rests-requires-clause-chart c =
    stays_chart c.args.net.now c.args.settings.now c.args.request.now.train c.args.chart.now c.numbers_of_calls.new.self
    c.numbers_of_calls.ensures.train c.numbers_of_calls.ensures.spots c.numbers_of_calls.ensures.chart c.numbers_of_calls.ensures.kept c.requires.chart

pub starts_with_rests-requires-clause-dwells : goal.starts_with_rests-requires-clause-dwells
starts_with_rests-requires-clause-dwells c = dwells_short c.args.net.now c.args.request.now c.in_ok-calls.calls c.requires.request c.in_ok-calls.ensures
