use Rattle.path_labels.proofs.Keeping.{worked_out}
use Rattle.path_labels.proofs.course_searches.Course.of.Goals as goal

pub returns : goal.returns
returns c =
    worked_out c.args.net.now c.args.settings.now c.args.request.now
    (record { places = c.args.places; plan = c.in_ok-plan.plan; ahead = c.in_ok-ahead.ahead })
    c.in_ok-plan.ensures.planned c.in_ok-ahead.ensures.ahead c.in_ok-ahead.ensures.consistent
