use Rattle.std.proofs.Common.{subst}
use Rattle.label_search.specs.Sought.{IsFound, IsNone, IsSought}
use Rattle.path_labels.proofs.Searching.{over_of}
use Rattle.path_labels.proofs.Telling.{found_answer, members_behind, none_answer, path_steps}
use Rattle.path_labels.proofs.plan_searches.seek_by_plan.Goals as goal

pub told_path-requires-clause-steps : goal.told_path-requires-clause-steps
told_path-requires-clause-steps c =
    let found : IsFound c.args.plan.now c.trip.result c.args.book.now c.in-Found.steps c.in-Found.members = subst (IsSought c.args.plan.now c.trip.result c.args.book.now) c.in-Found.is c.in_ok-steps.ensures in
    path_steps c.args.plan.now c.trip.result c.in-Found.steps found.path

pub told_members-requires : goal.told_members-requires
told_members-requires c =
    let found : IsFound c.args.plan.now c.trip.result c.args.book.now c.in-Found.steps c.in-Found.members = subst (IsSought c.args.plan.now c.trip.result c.args.book.now) c.in-Found.is c.in_ok-steps.ensures in
    members_behind c.args.net.now c.args.settings.now c.args.request.now c.args.places.now c.args.plan.now
    (record { moves = c.requires.planned.moves; planned = c.requires.planned.planned })
    c.in-Found.members found.within

pub told_members-requires-in-NoPath : goal.told_members-requires-in-NoPath
told_members-requires-in-NoPath c =
    let none : IsNone c.args.plan.now c.trip.result c.args.book.now c.in-NoPath.members = subst (IsSought c.args.plan.now c.trip.result c.args.book.now) c.in-NoPath.is c.in_ok-steps.ensures in
    members_behind c.args.net.now c.args.settings.now c.args.request.now c.args.places.now c.args.plan.now
    (record { moves = c.requires.planned.moves; planned = c.requires.planned.planned })
    c.in-NoPath.members none.within

pub returns-in_ok-proof-in-NoPath : goal.returns-in_ok-proof-in-NoPath
returns-in_ok-proof-in-NoPath c =
    let none : IsNone c.args.plan.now c.trip.result c.args.book.now c.in-NoPath.members = subst (IsSought c.args.plan.now c.trip.result c.args.book.now) c.in-NoPath.is c.in_ok-steps.ensures in
    none_answer c.planned_paths_are_granted.ensures c.granted_paths_are_planned.ensures c.args.net.now c.args.settings.now c.args.request.now c.args.places.now c.args.plan.now
    (over_of c.args.net.now c.args.settings.now c.args.request.now c.args.places.now c.args.plan.now c.requires.planned) c.args.book.now c.claims_have_ticks.ensures
    c.closed_plans_are_closed.ensures c.windows_change_no_places.ensures c.in-NoPath.members c.in_ok-proof-in-NoPath.proof c.in_ok-proof-in-NoPath.ensures
    (subst (λ trip. IsNone c.args.plan.now trip c.args.book.now c.in-NoPath.members) c.trip.ensures none)

pub returns-in_ok-proof-in-Found : goal.returns-in_ok-proof-in-Found
returns-in_ok-proof-in-Found c =
    let found : IsFound c.args.plan.now c.trip.result c.args.book.now c.in-Found.steps c.in-Found.members = subst (IsSought c.args.plan.now c.trip.result c.args.book.now) c.in-Found.is c.in_ok-steps.ensures in
    found_answer c.planned_paths_are_granted.ensures c.granted_paths_are_planned.ensures c.args.net.now c.args.settings.now c.args.request.now c.args.places.now c.args.plan.now
    (over_of c.args.net.now c.args.settings.now c.args.request.now c.args.places.now c.args.plan.now c.requires.planned) c.args.book.now c.claims_have_ticks.ensures
    c.closed_plans_are_closed.ensures c.windows_change_no_places.ensures c.in-Found.members c.in_ok-proof-in-Found.proof c.in_ok-proof-in-Found.ensures
    c.in-Found.steps c.in_ok-path-in-Found.path c.in_ok-path-in-Found.ensures
    (subst (λ trip. IsFound c.args.plan.now trip c.args.book.now c.in-Found.steps c.in-Found.members) c.trip.ensures found)
