use Rattle.path_labels.proofs.Alike.{within_limits_alike}
use Rattle.path_labels.proofs.course_searches.course_is_planned.Goals as goal

pub returns : goal.returns
returns c =
    let course = c.args.course.now in
    within_limits_alike c.windows_change_no_places.ensures c.args.net.now c.args.settings.now c.requires.course.worked_for c.args.request.now course.places course.plan c.requires.course.alike c.requires.request c.requires.course.planned
