use Rattle.std.proofs.Common.{arith, subst, sym}
use Rattle.std.specs.Prelude.{ℤ}
use Rattle.std.proofs.lemmas.Int.{ints}
use Rattle.rail_types.specs.Limits.{IsNear, IsTick}
use Rattle.label_search.specs.declared.plans.Trip.{Trip}
use Rattle.label_search.specs.Paths.{Possible}
use Rattle.path_labels.specs.ChartCourses.{listed_along, plan_along}
use Rattle.path_labels.proofs.ChartSteps.{planned_along}
use Rattle.path_labels.proofs.Telling.{impossible}
use Rattle.path_labels.proofs.chart_courses.is_shut.Goals as goal

spread : (tick : ℤ) → IsTick tick → IsNear tick
spread tick is = (omega (arith, ints, is.0), omega (arith, ints, is.1))

pub lasts-lasts-requires-clause-called : goal.lasts-lasts-requires-clause-called
lasts-lasts-requires-clause-called c = (planned_along c.charts_are_planned.ensures c.args.net.now c.args.settings.now c.args.request.now c.args.course.now c.requires.request c.requires.course).numbers.called

pub lasts-lasts-requires-clause-nears : goal.lasts-lasts-requires-clause-nears
lasts-lasts-requires-clause-nears c = c.requires.course.over.chart_is.nears

pub lasts-lasts-requires-clause-kept : goal.lasts-lasts-requires-clause-kept
lasts-lasts-requires-clause-kept c = c.requires.course.kept

pub ends_are_shut-requires-clause-plan : goal.ends_are_shut-requires-clause-plan
ends_are_shut-requires-clause-plan c =
    (planned_along c.charts_are_planned.ensures c.args.net.now c.args.settings.now c.args.request.now c.args.course.now c.requires.request c.requires.course).searched c.args.book.now c.requires.zones

pub ends_are_shut-requires-clause-called : goal.ends_are_shut-requires-clause-called
ends_are_shut-requires-clause-called c = (planned_along c.charts_are_planned.ensures c.args.net.now c.args.settings.now c.args.request.now c.args.course.now c.requires.request c.requires.course).numbers.called

pub ends_are_shut-requires-clause-arrive : goal.ends_are_shut-requires-clause-arrive
ends_are_shut-requires-clause-arrive c =
    let arrive = c.requires.request.arrive in
    subst (λ (trip : Trip). IsNear trip.arrive.from × IsNear trip.arrive.to) (sym c.trip.ensures)
    (spread c.args.request.now.arrive.from arrive.from, spread c.args.request.now.arrive.to arrive.to)

pub returns : goal.returns
returns c holds =
    let course = c.args.course.now in
    impossible c.planned_paths_are_granted.ensures c.granted_paths_are_planned.ensures c.args.net.now c.args.settings.now c.args.request.now (listed_along course) (plan_along c.args.settings.now course)
    (planned_along c.charts_are_planned.ensures c.args.net.now c.args.settings.now c.args.request.now course c.requires.request c.requires.course).over
    c.args.book.now c.claims_have_ticks.ensures
    (subst (λ (trip : Trip). ¬ Possible (plan_along c.args.settings.now course) trip c.args.book.now) c.trip.ensures (c.ends_are_shut.ensures holds))
