use Rattle.std.proofs.Common.{subst}
use Rattle.label_search.specs.Found.{IsFinding, IsLeast}
use Rattle.label_search.specs.Paths.{Possible}
use Rattle.path_labels.proofs.Searching.{over_of}
use Rattle.path_labels.proofs.Telling.{found_told, impossible, path_steps}
use Rattle.path_labels.proofs.plan_searches.find_by_plan.Goals as goal

pub told_path-requires-clause-steps : goal.told_path-requires-clause-steps
told_path-requires-clause-steps c =
    let least : IsLeast c.args.plan.now c.trip.result c.args.book.now c.in-Found.steps = subst (IsFinding c.args.plan.now c.trip.result c.args.book.now) c.in-Found.is c.in_ok-steps.ensures in
    path_steps c.args.plan.now c.trip.result c.in-Found.steps least.path

pub returns-in-NoPath : goal.returns-in-NoPath
returns-in-NoPath c =
    let none : ¬ Possible c.args.plan.now c.trip.result c.args.book.now = subst (IsFinding c.args.plan.now c.trip.result c.args.book.now) c.in-NoPath.is c.in_ok-steps.ensures in
    impossible c.planned_paths_are_granted.ensures c.granted_paths_are_planned.ensures c.args.net.now c.args.settings.now c.args.request.now c.args.places.now c.args.plan.now
    (over_of c.args.net.now c.args.settings.now c.args.request.now c.args.places.now c.args.plan.now c.requires.planned) c.args.book.now c.claims_have_ticks.ensures
    (subst (λ trip. ¬ Possible c.args.plan.now trip c.args.book.now) c.trip.ensures none)

pub returns-in_ok-path-in-Found : goal.returns-in_ok-path-in-Found
returns-in_ok-path-in-Found c =
    let least : IsLeast c.args.plan.now c.trip.result c.args.book.now c.in-Found.steps = subst (IsFinding c.args.plan.now c.trip.result c.args.book.now) c.in-Found.is c.in_ok-steps.ensures in
    found_told c.planned_paths_are_granted.ensures c.granted_paths_are_planned.ensures c.args.net.now c.args.settings.now c.args.request.now c.args.places.now c.args.plan.now
    (over_of c.args.net.now c.args.settings.now c.args.request.now c.args.places.now c.args.plan.now c.requires.planned) c.args.book.now c.claims_have_ticks.ensures
    c.in-Found.steps c.in_ok-path-in-Found.path c.in_ok-path-in-Found.ensures
    (subst (λ trip. IsLeast c.args.plan.now trip c.args.book.now c.in-Found.steps) c.trip.ensures least)
