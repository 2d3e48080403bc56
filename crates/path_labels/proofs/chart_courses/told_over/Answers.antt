use Rattle.std.proofs.Common.{◌≡◌, ◌≤◌, ap, arith, length, subst, sym}
use Rattle.label_search.specs.declared.plans.Target.TheVariants.{Place as To}
use Rattle.path_labels.specs.ChartCourses.{listed_along}
use Rattle.path_labels.proofs.ChartSteps.{never_at_end, step_ends, step_move, step_on_chart, step_open, step_place, step_told}
use Rattle.path_labels.proofs.Steps.{AreTold, all_told, none_told}
use Rattle.path_labels.proofs.chart_courses.told_over.Goals as goal

pub unreachable-requires : goal.unreachable-requires
unreachable-requires c =
    never_at_end c.args.settings.now c.args.course.now c.args.plan.now c.requires.plan c.args.steps.now c.as_slice-step-items.result.now c.as_slice-step-items.ensures
    c.loop-step.step-index c.loop-step-test.true c.loop-step.target c.loop-step.runs c.loop-step.invariant c.in_default.is

pub way_on_chart-way-requires-clause-place : goal.way_on_chart-way-requires-clause-place
way_on_chart-way-requires-clause-place c =
    step_on_chart c.args.settings.now c.args.course.now c.args.plan.now c.requires.plan c.args.steps.now c.as_slice-step-items.result.now c.as_slice-step-items.ensures
    c.loop-step.step-index c.loop-step-test.true c.loop-step.target c.loop-step.runs c.loop-step.invariant c.in-Place.number c.in-Place.is

pub way_on_chart-way-requires-clause-number : goal.way_on_chart-way-requires-clause-number
way_on_chart-way-requires-clause-number c =
    step_open c.args.settings.now c.args.course.now c.args.plan.now c.requires.plan c.args.steps.now c.as_slice-step-items.result.now c.as_slice-step-items.ensures
    c.loop-step.step-index c.loop-step-test.true c.loop-step.target c.loop-step.runs c.loop-step.invariant c.in-Place.number c.in-Place.is

pub run_of_way-requires-clause-begins : goal.run_of_way-requires-clause-begins
run_of_way-requires-clause-begins c =
    (step_move c.args.settings.now c.args.course.now c.args.plan.now c.requires.plan c.args.steps.now c.as_slice-step-items.result.now c.as_slice-step-items.ensures
    c.loop-step.step-index c.loop-step-test.true c.loop-step.target c.loop-step.runs c.loop-step.invariant c.in-Place.number c.in-Place.is).1

pub run_of_way-requires-clause-ends : goal.run_of_way-requires-clause-ends
run_of_way-requires-clause-ends c =
    step_ends c.args.settings.now c.args.course.now c.args.plan.now c.requires.plan c.args.steps.now c.as_slice-step-items.result.now c.as_slice-step-items.ensures
    c.loop-step.step-index c.loop-step-test.true c.loop-step.target c.loop-step.runs c.loop-step.invariant c.in-Place.number c.in-Place.is c.way_on_chart-way.result.now c.way_on_chart-way.ensures
    c.requires.horizon

pub target-target-requires-clause-place : goal.target-target-requires-clause-place
target-target-requires-clause-place c =
    step_place c.args.settings.now c.args.course.now c.args.plan.now c.requires.plan c.args.steps.now c.as_slice-step-items.result.now c.as_slice-step-items.ensures
    c.loop-step.step-index c.loop-step-test.true c.loop-step.target c.loop-step.runs c.loop-step.invariant c.in-Place.number c.in-Place.is

pub target-target-requires-clause-number : goal.target-target-requires-clause-number
target-target-requires-clause-number c =
    (step_move c.args.settings.now c.args.course.now c.args.plan.now c.requires.plan c.args.steps.now c.as_slice-step-items.result.now c.as_slice-step-items.ensures
    c.loop-step.step-index c.loop-step-test.true c.loop-step.target c.loop-step.runs c.loop-step.invariant c.in-Place.number c.in-Place.is).0

pub loop-step-init : goal.loop-step-init
loop-step-init c =
    subst (AreTold (listed_along c.args.course.now) c.args.plan.now c.args.steps.now 0 (To 0)) (sym c.new-runs.ensures)
    (none_told (listed_along c.args.course.now) c.args.plan.now c.args.steps.now c.requires.steps)

pub loop-step-preserved : goal.loop-step-preserved
loop-step-preserved c =
    let run = c.run_of_way.ensures in
    step_told c.args.settings.now c.args.course.now c.args.plan.now c.requires.plan c.args.steps.now c.as_slice-step-items.result.now c.as_slice-step-items.ensures
    c.loop-step.step-index c.loop-step-test.true c.loop-step.target c.loop-step.runs c.loop-step.invariant c.in-Place.number c.in-Place.is c.way_on_chart-way.result.now c.way_on_chart-way.ensures
    c.target-target.result c.run_of_way.result c.push.new.self c.target-target.ensures run.block run.enter run.leave run.stops c.in_ok-push.ensures.ok

pub returns : goal.returns
returns c =
    let past : length c.args.steps.now ≤ c.loop-step.step-index = let same = ap length c.as_slice-step-items.ensures in let done = c.loop-step-test.false in omega (arith, same, done) in
    let train : c.in_ok-copy.field-0 ≡ c.args.request.now.train = c.in_ok-copy.ensures in
    let runs = all_told (listed_along c.args.course.now) c.args.plan.now c.args.steps.now c.loop-step.step-index c.loop-step.target c.loop-step.runs past c.loop-step.invariant in
    λ j. record { train = train j; runs = runs j }
