use Rattle.ask_turns.specs.Turns.{timetable_at}
use Rattle.rail_types.specs.Timetables.{Timetable}
use Rattle.line_answers.proofs.asks.guide_of.Goals as goal

-- ---- a course that is kept

pub returns-in-Some-clause-guide : goal.returns-in-Some-clause-guide
returns-in-Some-clause-guide g c =
    c.in-Some.ensures.some (timetable_at c.args.shared.now.gate) c.requires.copy.0 c.requires.copy.1

pub returns-in-Some-clause-copy : goal.returns-in-Some-clause-copy
returns-in-Some-clause-copy g c = c.take_course.ensures.copy (timetable_at c.args.shared.now.gate)

-- ---- one over a chart

pub chart_course_of-requires-clause-copy : goal.chart_course_of-requires-clause-copy
chart_course_of-requires-clause-copy g c =
    let timetable : Timetable = timetable_at c.args.shared.now.gate in
    (c.requires.copy.0, c.take_course.ensures.copy timetable c.requires.copy.0 c.requires.copy.1)

pub returns-in-Some-chart_course_of-clause-guide : goal.returns-in-Some-chart_course_of-clause-guide
returns-in-Some-chart_course_of-clause-guide g c = c.in-Some-chart_course_of.ensures.course

pub returns-in-Some-chart_course_of-clause-copy : goal.returns-in-Some-chart_course_of-clause-copy
returns-in-Some-chart_course_of-clause-copy g c entries copy =
    c.chart_course_of.ensures.copy entries (c.take_course.ensures.copy (timetable_at c.args.shared.now.gate) entries copy)

-- ---- one that is worked out

pub returns-in_err-course-clause-copy : goal.returns-in_err-course-clause-copy
returns-in_err-course-clause-copy g c entries copy =
    c.chart_course_of.ensures.copy entries (c.take_course.ensures.copy (timetable_at c.args.shared.now.gate) entries copy)

pub returns-clause-guide : goal.returns-clause-guide
returns-clause-guide g c = c.in_ok-course.ensures.course

pub returns-clause-copy : goal.returns-clause-copy
returns-clause-copy g c entries copy =
    c.chart_course_of.ensures.copy entries (c.take_course.ensures.copy (timetable_at c.args.shared.now.gate) entries copy)
