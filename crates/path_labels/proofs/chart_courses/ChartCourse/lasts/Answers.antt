use Rattle.std.proofs.Common.{◌∙◌}
use Rattle.label_search.specs.Endings.{last_call}
use Rattle.path_labels.proofs.KeepingNears.{lasts_there}
use Rattle.path_labels.proofs.chart_courses.ChartCourse.lasts.Goals as goal

pub lasts_at-requires : goal.lasts_at-requires
lasts_at-requires c = c.last_number-number.ensures.within

pub returns : goal.returns
returns c =
    let course = c.args.self.now in
    c.lasts_at.ensures
    ∙ lasts_there course.chart.chart.spots course.chart.nears (last_call course.calls).blocks c.last_number-number.result c.requires.nears c.last_number-number.ensures
