use Rattle.std.proofs.Common.{◌++◌, ◌∷◌, [], ◌∙◌, ap}
use Rattle.demo_command.proofs.sessions.one_plan.Goals as goal

pub returns : goal.returns
returns c = record {
  plan = c.in_ok-plan.plan;
  one = c.in_ok-push.ensures.items ∙ ap (λ plans. plans ++ c.in_ok-plan.plan ∷ []) c.new-plans.ensures.items;
  is = c.in_ok-plan.ensures;
}
