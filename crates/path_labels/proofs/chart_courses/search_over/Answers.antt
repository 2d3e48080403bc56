use Rattle.std.proofs.Common.{◌<◌, All, List, length, pos, refl, subst, sym}
use Rattle.label_search.specs.declared.nearing.Near.{Near}
use Rattle.label_search.specs.declared.plans.Plan.{Plan}
use Rattle.label_search.specs.declared.plans.Trip.{Trip}
use Rattle.label_search.specs.Found.{IsFinding, IsLeast}
use Rattle.label_search.specs.Limits.{IsConsistent}
use Rattle.label_search.specs.Nearing.{AreRests}
use Rattle.label_search.specs.Paths.{Possible}
use Rattle.path_labels.specs.ChartCourses.{listed_along, plan_along}
use Rattle.path_labels.proofs.ChartSteps.{lent_in, planned_along, planned_lent}
use Rattle.path_labels.proofs.KeepingNears.{near_calls, nears_read, numbers_within}
use Rattle.path_labels.proofs.Shortness.{dwells_short}
use Rattle.path_labels.proofs.Telling.{found_told, impossible, path_steps}
use Rattle.path_labels.proofs.chart_courses.search_over.Goals as goal

pub plan-plan-requires-clause-leads : goal.plan-plan-requires-clause-leads
plan-plan-requires-clause-leads c = (planned_along c.charts_are_planned.ensures c.args.net.now c.args.settings.now c.args.request.now c.args.course.now c.requires.request c.requires.course).leads

pub plan-plan-requires-clause-numbers : goal.plan-plan-requires-clause-numbers
plan-plan-requires-clause-numbers c = (planned_along c.charts_are_planned.ensures c.args.net.now c.args.settings.now c.args.request.now c.args.course.now c.requires.request c.requires.course).numbers

pub find_lent-requires-clause-plan : goal.find_lent-requires-clause-plan
find_lent-requires-clause-plan c =
    lent_in c.charts_are_planned.ensures c.args.net.now c.args.settings.now c.args.request.now c.args.course.now c.requires.request c.requires.course
    c.plan-plan.result c.args.book.now c.plan-plan.ensures c.requires.zones

pub nears_at-requires : goal.nears_at-requires
nears_at-requires c =
    let course = c.args.course.now in
    subst (All (λ number. number < length course.chart.nears)) (sym c.deref.ensures.value) (numbers_within course.chart.nears course.calls course.numbers.items c.requires.course.kept)

pub summed-ahead-requires-clause-dwells : goal.summed-ahead-requires-clause-dwells
summed-ahead-requires-clause-dwells c = dwells_short c.args.net.now c.args.request.now c.args.course.now.calls c.requires.request c.requires.course.over.calls_are

pub summed-ahead-requires-clause-nears : goal.summed-ahead-requires-clause-nears
summed-ahead-requires-clause-nears c =
    let course = c.args.course.now in
    near_calls course.chart.chart.spots course.chart.nears course.calls course.numbers.items _
    (nears_read course.chart.nears c.deref.result.now course.numbers.items c.as_slice.result.now c.in_ok-nears.nears.items c.deref.ensures.value c.in_ok-nears.ensures c.as_slice.ensures.value)
    c.requires.course.over.chart_is.nears c.requires.course.kept

pub summed-ahead-requires-clause-rests : goal.summed-ahead-requires-clause-rests
summed-ahead-requires-clause-rests c =
    let course = c.args.course.now in
    subst (λ (nears : List Near). AreRests course.chart.chart.spots course.calls nears course.rests)
    (sym (nears_read course.chart.nears c.deref.result.now course.numbers.items c.as_slice.result.now c.in_ok-nears.nears.items c.deref.ensures.value c.in_ok-nears.ensures c.as_slice.ensures.value))
    c.requires.course.left

pub find_lent-requires-clause-ahead : goal.find_lent-requires-clause-ahead
find_lent-requires-clause-ahead c = c.summed-ahead.ensures.ahead

pub find_lent-requires-clause-consistent : goal.find_lent-requires-clause-consistent
find_lent-requires-clause-consistent c =
    let course = c.args.course.now in
    subst (λ (p : Plan). IsConsistent p c.summed-ahead.result) (sym c.plan-plan.ensures)
    (c.summed-ahead.ensures.consistent course.starts (pos c.args.settings.now.horizon) c.args.book.now
    (lent_in c.charts_are_planned.ensures c.args.net.now c.args.settings.now c.args.request.now course c.requires.request c.requires.course
    (plan_along c.args.settings.now course) c.args.book.now refl c.requires.zones))

pub told_over-requires-clause-numbers : goal.told_over-requires-clause-numbers
told_over-requires-clause-numbers c = (planned_along c.charts_are_planned.ensures c.args.net.now c.args.settings.now c.args.request.now c.args.course.now c.requires.request c.requires.course).numbers

pub told_over-requires-clause-horizon : goal.told_over-requires-clause-horizon
told_over-requires-clause-horizon c =
    (lent_in c.charts_are_planned.ensures c.args.net.now c.args.settings.now c.args.request.now c.args.course.now c.requires.request c.requires.course
    c.plan-plan.result c.args.book.now c.plan-plan.ensures c.requires.zones).horizon.1

pub told_over-requires-clause-steps : goal.told_over-requires-clause-steps
told_over-requires-clause-steps c =
    let least : IsLeast c.plan-plan.result c.trip.result c.args.book.now c.in-Found.steps = subst (IsFinding c.plan-plan.result c.trip.result c.args.book.now) c.in-Found.is c.in_ok-steps.ensures in
    path_steps c.plan-plan.result c.trip.result c.in-Found.steps least.path

pub returns : goal.returns
returns c =
    let none : ¬ Possible c.plan-plan.result c.trip.result c.args.book.now = subst (IsFinding c.plan-plan.result c.trip.result c.args.book.now) c.in-NoPath.is c.in_ok-steps.ensures in
    impossible c.planned_paths_are_granted.ensures c.granted_paths_are_planned.ensures c.args.net.now c.args.settings.now c.args.request.now (listed_along c.args.course.now) c.plan-plan.result
    (planned_lent c.charts_are_planned.ensures c.args.net.now c.args.settings.now c.args.request.now c.args.course.now c.requires.request c.requires.course c.plan-plan.result c.plan-plan.ensures)
    c.args.book.now c.claims_have_ticks.ensures
    (subst (λ (trip : Trip). ¬ Possible c.plan-plan.result trip c.args.book.now) c.trip.ensures none)

pub returns-in-Found : goal.returns-in-Found
returns-in-Found c =
    let least : IsLeast c.plan-plan.result c.trip.result c.args.book.now c.in-Found.steps = subst (IsFinding c.plan-plan.result c.trip.result c.args.book.now) c.in-Found.is c.in_ok-steps.ensures in
    found_told c.planned_paths_are_granted.ensures c.granted_paths_are_planned.ensures c.args.net.now c.args.settings.now c.args.request.now (listed_along c.args.course.now) c.plan-plan.result
    (planned_lent c.charts_are_planned.ensures c.args.net.now c.args.settings.now c.args.request.now c.args.course.now c.requires.request c.requires.course c.plan-plan.result c.plan-plan.ensures)
    c.args.book.now c.claims_have_ticks.ensures
    c.in-Found.steps c.in_ok-path-in-Found.path c.in_ok-path-in-Found.ensures
    (subst (λ (trip : Trip). IsLeast c.plan-plan.result trip c.args.book.now c.in-Found.steps) c.trip.ensures least)
