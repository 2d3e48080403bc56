use Rattle.std.proofs.Common.{◌≡◌, ◌∙◌, ◌<◌, All, ap, subst, sym}
use Rattle.label_search.specs.declared.plans.Trip.{Trip}
use Rattle.label_search.specs.Sought.{IsFound, IsNone, IsSought}
use Rattle.path_labels.specs.ChartCourses.{listed_along, members_along}
use Rattle.path_labels.specs.Joining.{IsBehindTheStart, members_in}
use Rattle.path_labels.proofs.ChartSteps.{lent_in, planned_along, planned_lent}
use Rattle.path_labels.proofs.Telling.{found_answer, members_behind, none_answer, path_steps}
use Rattle.path_labels.proofs.chart_seeks.seek_over.Goals as goal

pub plan-plan-requires-clause-leads : goal.plan-plan-requires-clause-leads
plan-plan-requires-clause-leads c = (planned_along c.charts_are_planned.ensures c.args.net.now c.args.settings.now c.args.request.now c.args.course.now c.requires.request c.requires.course).leads

pub plan-plan-requires-clause-numbers : goal.plan-plan-requires-clause-numbers
plan-plan-requires-clause-numbers c = (planned_along c.charts_are_planned.ensures c.args.net.now c.args.settings.now c.args.request.now c.args.course.now c.requires.request c.requires.course).numbers

pub levels_of-levels-requires : goal.levels_of-levels-requires
levels_of-levels-requires c = (planned_along c.charts_are_planned.ensures c.args.net.now c.args.settings.now c.args.request.now c.args.course.now c.requires.request c.requires.course).numbers

pub seek_lent-requires : goal.seek_lent-requires
seek_lent-requires c = record {
  plan = lent_in c.charts_are_planned.ensures c.args.net.now c.args.settings.now c.args.request.now c.args.course.now c.requires.request c.requires.course
      c.plan-plan.result c.args.book.now c.plan-plan.ensures c.requires.zones;
}

-- ---- the path that is told

pub told_over-requires-clause-numbers : goal.told_over-requires-clause-numbers
told_over-requires-clause-numbers c = (planned_along c.charts_are_planned.ensures c.args.net.now c.args.settings.now c.args.request.now c.args.course.now c.requires.request c.requires.course).numbers

pub told_over-requires-clause-horizon : goal.told_over-requires-clause-horizon
told_over-requires-clause-horizon c =
    (lent_in c.charts_are_planned.ensures c.args.net.now c.args.settings.now c.args.request.now c.args.course.now c.requires.request c.requires.course
    c.plan-plan.result c.args.book.now c.plan-plan.ensures c.requires.zones).horizon.1

pub told_over-requires-clause-steps : goal.told_over-requires-clause-steps
told_over-requires-clause-steps c =
    let found : IsFound c.plan-plan.result c.trip.result c.args.book.now c.in-Found.steps c.in-Found.members = subst (IsSought c.plan-plan.result c.trip.result c.args.book.now) c.in-Found.is c.in_ok-steps.ensures in
    path_steps c.plan-plan.result c.trip.result c.in-Found.steps found.path

-- ---- the members that are told

pub told_members_over-requires-clause-levels : goal.told_members_over-requires-clause-levels
told_members_over-requires-clause-levels c =
    let numbers = (planned_along c.charts_are_planned.ensures c.args.net.now c.args.settings.now c.args.request.now c.args.course.now c.requires.request c.requires.course).numbers in
    subst (λ n. 0 < n) (sym c.levels_of-levels.ensures) numbers.called

pub told_members_over-requires-clause-behind : goal.told_members_over-requires-clause-behind
told_members_over-requires-clause-behind c =
    let found : IsFound c.plan-plan.result c.trip.result c.args.book.now c.in-Found.steps c.in-Found.members = subst (IsSought c.plan-plan.result c.trip.result c.args.book.now) c.in-Found.is c.in_ok-steps.ensures in
    let over = planned_lent c.charts_are_planned.ensures c.args.net.now c.args.settings.now c.args.request.now c.args.course.now c.requires.request c.requires.course c.plan-plan.result c.plan-plan.ensures in
    subst (λ n. All (IsBehindTheStart (members_along c.args.course.now.chart.spots.spots n)) c.in-Found.members) (sym c.levels_of-levels.ensures)
    (members_behind c.args.net.now c.args.settings.now c.args.request.now (listed_along c.args.course.now) c.plan-plan.result
    (record { moves = over.moves; planned = over.planned }) c.in-Found.members found.within)

pub told_members_over-requires-in-NoPath-clause-levels : goal.told_members_over-requires-in-NoPath-clause-levels
told_members_over-requires-in-NoPath-clause-levels c =
    let numbers = (planned_along c.charts_are_planned.ensures c.args.net.now c.args.settings.now c.args.request.now c.args.course.now c.requires.request c.requires.course).numbers in
    subst (λ n. 0 < n) (sym c.levels_of-levels.ensures) numbers.called

pub told_members_over-requires-in-NoPath-clause-behind : goal.told_members_over-requires-in-NoPath-clause-behind
told_members_over-requires-in-NoPath-clause-behind c =
    let none : IsNone c.plan-plan.result c.trip.result c.args.book.now c.in-NoPath.members = subst (IsSought c.plan-plan.result c.trip.result c.args.book.now) c.in-NoPath.is c.in_ok-steps.ensures in
    let over = planned_lent c.charts_are_planned.ensures c.args.net.now c.args.settings.now c.args.request.now c.args.course.now c.requires.request c.requires.course c.plan-plan.result c.plan-plan.ensures in
    subst (λ n. All (IsBehindTheStart (members_along c.args.course.now.chart.spots.spots n)) c.in-NoPath.members) (sym c.levels_of-levels.ensures)
    (members_behind c.args.net.now c.args.settings.now c.args.request.now (listed_along c.args.course.now) c.plan-plan.result
    (record { moves = over.moves; planned = over.planned }) c.in-NoPath.members none.within)

-- ---- what is answered

pub returns-in_ok-proof-in-Found : goal.returns-in_ok-proof-in-Found
returns-in_ok-proof-in-Found c =
    let found : IsFound c.plan-plan.result c.trip.result c.args.book.now c.in-Found.steps c.in-Found.members = subst (IsSought c.plan-plan.result c.trip.result c.args.book.now) c.in-Found.is c.in_ok-steps.ensures in
    let told : c.in_ok-proof-in-Found.proof.members ≡ members_in (listed_along c.args.course.now).members c.in-Found.members =
    c.in_ok-proof-in-Found.ensures ∙ ap (λ n. members_in (members_along c.args.course.now.chart.spots.spots n) c.in-Found.members) c.levels_of-levels.ensures in
    found_answer c.planned_paths_are_granted.ensures c.granted_paths_are_planned.ensures c.args.net.now c.args.settings.now c.args.request.now (listed_along c.args.course.now) c.plan-plan.result
    (planned_lent c.charts_are_planned.ensures c.args.net.now c.args.settings.now c.args.request.now c.args.course.now c.requires.request c.requires.course c.plan-plan.result c.plan-plan.ensures)
    c.args.book.now c.claims_have_ticks.ensures
    c.closed_plans_are_closed.ensures c.windows_change_no_places.ensures c.in-Found.members c.in_ok-proof-in-Found.proof told
    c.in-Found.steps c.in_ok-path-in-Found.path c.in_ok-path-in-Found.ensures
    (subst (λ (trip : Trip). IsFound c.plan-plan.result trip c.args.book.now c.in-Found.steps c.in-Found.members) c.trip.ensures found)

pub returns-in_ok-proof-in-NoPath : goal.returns-in_ok-proof-in-NoPath
returns-in_ok-proof-in-NoPath c =
    let none : IsNone c.plan-plan.result c.trip.result c.args.book.now c.in-NoPath.members = subst (IsSought c.plan-plan.result c.trip.result c.args.book.now) c.in-NoPath.is c.in_ok-steps.ensures in
    let told : c.in_ok-proof-in-NoPath.proof.members ≡ members_in (listed_along c.args.course.now).members c.in-NoPath.members =
    c.in_ok-proof-in-NoPath.ensures ∙ ap (λ n. members_in (members_along c.args.course.now.chart.spots.spots n) c.in-NoPath.members) c.levels_of-levels.ensures in
    none_answer c.planned_paths_are_granted.ensures c.granted_paths_are_planned.ensures c.args.net.now c.args.settings.now c.args.request.now (listed_along c.args.course.now) c.plan-plan.result
    (planned_lent c.charts_are_planned.ensures c.args.net.now c.args.settings.now c.args.request.now c.args.course.now c.requires.request c.requires.course c.plan-plan.result c.plan-plan.ensures)
    c.args.book.now c.claims_have_ticks.ensures
    c.closed_plans_are_closed.ensures c.windows_change_no_places.ensures c.in-NoPath.members c.in_ok-proof-in-NoPath.proof told
    (subst (λ (trip : Trip). IsNone c.plan-plan.result trip c.args.book.now c.in-NoPath.members) c.trip.ensures none)
