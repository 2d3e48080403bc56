use Rattle.std.proofs.Common.{◌≡◌, ◌∙◌, sym, ap, subst, length, get_or, pos, ◌+◌, ◌<◌, ◌≤◌, [], ◌∷◌, ◌++◌, arith}
use Rattle.label_search.specs.declared.plans.Step.{Step}
use Rattle.label_search.specs.declared.plans.Target.TheVariants.{Place as To}
use Rattle.label_search.specs.Paths.{IsMove, target_of}
use Rattle.path_labels.specs.Joining.{run_of}
use Rattle.path_labels.proofs.Steps.{AreTold, all_told, move_told, never_past, next_told, none_told, place_told}
use Rattle.path_labels.proofs.paths.told_path.Goals as goal

pub unreachable-requires : goal.unreachable-requires
unreachable-requires c =
    never_past c.args.places.now c.args.plan.now c.args.steps.now c.loop-step.step-index (record { number = 0; enter = pos 0 })
    (subst (λ steps. c.loop-step.step-index < length steps) c.as_slice-step-items.ensures c.loop-step-test.true) c.loop-step.runs
    (subst (λ target. AreTold c.args.places.now c.args.plan.now c.args.steps.now c.loop-step.step-index target c.loop-step.runs) c.in_default.is c.loop-step.invariant)

pub run_at-requires-clause-number : goal.run_at-requires-clause-number
run_at-requires-clause-number c =
    place_told c.args.places.now c.args.plan.now c.args.steps.now c.loop-step.step-index (record { number = 0; enter = pos 0 })
    (subst (λ steps. c.loop-step.step-index < length steps) c.as_slice-step-items.ensures c.loop-step-test.true) c.loop-step.runs c.in-Place.number
    (subst (λ target. AreTold c.args.places.now c.args.plan.now c.args.steps.now c.loop-step.step-index target c.loop-step.runs) c.in-Place.is c.loop-step.invariant)

pub run_at-requires-clause-step : goal.run_at-requires-clause-step
run_at-requires-clause-step c =
    subst (λ steps. IsMove c.args.plan.now c.in-Place.number (get_or steps c.loop-step.step-index (record { number = 0; enter = pos 0 }))) (sym c.as_slice-step-items.ensures)
    (move_told c.args.places.now c.args.plan.now c.args.steps.now c.loop-step.step-index (record { number = 0; enter = pos 0 })
    (subst (λ steps. c.loop-step.step-index < length steps) c.as_slice-step-items.ensures c.loop-step-test.true) c.loop-step.runs c.in-Place.number
    (subst (λ target. AreTold c.args.places.now c.args.plan.now c.args.steps.now c.loop-step.step-index target c.loop-step.runs) c.in-Place.is c.loop-step.invariant))

pub returns : goal.returns
returns c =
    let past : length c.args.steps.now ≤ c.loop-step.step-index = let same = ap length c.as_slice-step-items.ensures in let done = c.loop-step-test.false in omega (arith, same, done) in
    let train : c.in_ok-copy.field-0 ≡ c.args.request.now.train = c.in_ok-copy.ensures in
    let runs = all_told c.args.places.now c.args.plan.now c.args.steps.now c.loop-step.step-index c.loop-step.target c.loop-step.runs past c.loop-step.invariant in
    λ j. record { train = train j; runs = runs j }

pub loop-step-init : goal.loop-step-init
loop-step-init c = subst (AreTold c.args.places.now c.args.plan.now c.args.steps.now 0 (To 0)) (sym c.new-runs.ensures) (none_told c.args.places.now c.args.plan.now c.args.steps.now c.requires.steps)

pub loop-step-preserved : goal.loop-step-preserved
loop-step-preserved c =
    let d : Step = record { number = 0; enter = pos 0 } in
    let at = c.loop-step.step-index in
    let same = ap (λ steps. get_or steps at d) c.as_slice-step-items.ensures in
    let target = c.target_at-target.ensures ∙ ap (target_of c.args.plan.now c.in-Place.number) same in
    let run = c.run_at.ensures ∙ ap (run_of c.args.places.now c.args.plan.now c.in-Place.number) same in
    let runs = c.in_ok-push.ensures.ok ∙ ap (λ one. c.loop-step.runs ++ one ∷ []) run in
    subst (λ target. AreTold c.args.places.now c.args.plan.now c.args.steps.now (at + 1) target c.push.new.self) (sym target)
    (subst (AreTold c.args.places.now c.args.plan.now c.args.steps.now (at + 1) (target_of c.args.plan.now c.in-Place.number (get_or c.args.steps.now at d))) (sym runs)
    (next_told c.args.places.now c.args.plan.now c.args.steps.now at d
    (subst (λ steps. at < length steps) c.as_slice-step-items.ensures c.loop-step-test.true) c.loop-step.runs c.in-Place.number
    (subst (λ target. AreTold c.args.places.now c.args.plan.now c.args.steps.now at target c.loop-step.runs) c.in-Place.is c.loop-step.invariant)))
