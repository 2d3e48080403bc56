-- The runs of a planned path, step by step.
use Rattle.std.proofs.Common.{◌≡◌, ◌∙◌, inl, inr, sym, ap, refl, subst, ℕ, ◌+◌, ◌<◌, ◌≤◌, pos, false, List, [], ◌∷◌, ◌++◌, length, get_or, drop, arith}
use Rattle.std.proofs.Math.ListN.{get_or-eq_default}
use Rattle.std.proofs.lemmas.Bool.{cases_lt}
use Rattle.std.proofs.lemmas.List.{append-nil, append_assoc, drop_all, drop_more}
use Rattle.rail_types.specs.declared.paths.Run.{Run}
use Rattle.tail_states.specs.Listed.{Listed}
use Rattle.label_search.specs.declared.plans.Target.{Target}
use Rattle.label_search.specs.declared.plans.Target.TheVariants.{Place as To, End}
use Rattle.label_search.specs.declared.plans.Plan.{Plan}
use Rattle.label_search.specs.declared.plans.Place.{Place as PlannedPlace}
use Rattle.label_search.specs.declared.plans.Step.{Step}
use Rattle.label_search.specs.Paths.{IsMove as IsPlannedMove, place_at, target_of}
use Rattle.path_labels.specs.Joining.{AreSteps, run_of, runs_from}

-- so many steps are told, and those behind them go on from a target
pub record AreTold (listed : Listed) (plan : Plan) (steps : List Step) (index : ℕ) (target : Target) (runs : List Run) : Type 0 where
  pub left : AreSteps plan target (drop index steps)
  pub told : runs ++ runs_from listed plan target (drop index steps) ≡ runs_from listed plan (To 0) steps

module _ (listed : Listed) (plan : Plan) (steps : List Step) where
  pub none_told : AreSteps plan (To 0) steps → AreTold listed plan steps 0 (To 0) []
  none_told are = record { left = are; told = refl }

  module _ (index : ℕ) (d : Step) (within : index < length steps) (runs : List Run) where
    abbrev step : Step
    step = get_or steps index d

    more : drop index steps ≡ step ∷ drop (index + 1) steps
    more = drop_more steps index d within

    pub never_past : AreTold listed plan steps index End runs → ⊥
    never_past are = subst (AreSteps plan End) more are.left

    pub move_told : (number : ℕ) → AreTold listed plan steps index (To number) runs → IsPlannedMove plan number step
    move_told number are = (subst (AreSteps plan (To number)) more are.left).0

    pub place_told : (number : ℕ) → AreTold listed plan steps index (To number) runs → number < length plan.places
    place_told number are = elim (cases_lt number (length plan.places)) [
      | inl less ↦ less
      | inr past ↦ absurd (let inside = (move_told number are).0 in let none : length (place_at plan number).moves ≡ 0 = ap (λ (p : PlannedPlace). length p.moves) (get_or-eq_default plan.places (record { standing = false; dwell = pos 0; waits = []; moves = [] }) past) in omega (arith, inside, none))
    ]

    pub next_told : (number : ℕ) → AreTold listed plan steps index (To number) runs → AreTold listed plan steps (index + 1) (target_of plan number step) (runs ++ run_of listed plan number step ∷ [])
    next_told number are = record {
      left = (subst (AreSteps plan (To number)) more are.left).1;
      told = append_assoc runs (run_of listed plan number step ∷ []) (runs_from listed plan (target_of plan number step) (drop (index + 1) steps))
          ∙ sym (ap (λ left. runs ++ runs_from listed plan (To number) left) more) ∙ are.told;
    }

  pub all_told : (index : ℕ) (target : Target) (runs : List Run) → length steps ≤ index → AreTold listed plan steps index target runs → runs ≡ runs_from listed plan (To 0) steps
  all_told index target runs past are = sym (append-nil runs) ∙ sym (ap (λ left. runs ++ runs_from listed plan target left) (drop_all index steps past)) ∙ are.told
