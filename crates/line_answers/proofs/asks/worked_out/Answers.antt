use Rattle.std.proofs.Common.{subst}
use Rattle.ask_turns.specs.labels.Courses.{IsCourse}
use Rattle.rail_types.specs.declared.entries.Settings.{Settings}
use Rattle.rail_types.specs.declared.tracks.Network.{Network}
use Rattle.rail_types.specs.Timetables.{Timetable}
use Rattle.ask_turns.specs.Turns.{timetable_at}
use Rattle.line_answers.proofs.asks.worked_out.Goals as goal

pub returns-clause-course : goal.returns-clause-course
returns-clause-course g c =
    let timetable : Timetable = timetable_at c.args.shared.now.gate in
    subst (λ (by : Settings). IsCourse timetable.net by c.args.request.now c.in_ok-course.course) c.requires.shared.settings
    (subst (λ (net : Network). IsCourse net c.args.shared.now.settings c.args.request.now c.in_ok-course.course)
    c.network_of-net.ensures c.in_ok-course.ensures)
