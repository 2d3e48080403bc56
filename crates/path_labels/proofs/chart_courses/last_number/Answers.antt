use Rattle.std.proofs.Common.{◌-◌, get_or, length, refl}
use Rattle.path_labels.proofs.KeepingNears.{last_there}
use Rattle.path_labels.proofs.chart_courses.last_number.Goals as goal

pub returns : goal.returns
returns c =
    let course = c.args.course.now in
    let numbers = c.as_slice-numbers.result.now in
    last_there course.chart.nears course.calls course.numbers.items numbers (get_or numbers (length numbers - 1) 0) c.requires.kept c.requires.called c.as_slice-numbers.ensures.value refl
