use Rattle.std.proofs.Common.{◌↔◌, sym, subst}
use Rattle.std.specs.Bool.{IsTrue}
use Rattle.std.proofs.lemmas.Result.{IfOk-weaker}
use Rattle.plan_core.specs.Events.{IsEnabled}
use Rattle.plan_core.proofs.worlds.World.step.Goals as goal

pub returns-in-Commit-clause-enabled : goal.returns-in-Commit-clause-enabled
returns-in-Commit-clause-enabled c = IfOk-weaker c.commit.result _ _ (λ may does. subst (λ event. IsTrue may ↔ IsEnabled c.args.self.now event) (sym c.in-Commit.is) does.enabled) c.commit.ensures.does

pub returns-in-Free-clause-enabled : goal.returns-in-Free-clause-enabled
returns-in-Free-clause-enabled c = IfOk-weaker c.free.result _ _ (λ may does. subst (λ event. IsTrue may ↔ IsEnabled c.args.self.now event) (sym c.in-Free.is) does.enabled) c.free.ensures.does

pub returns-in-Fault-clause-enabled : goal.returns-in-Fault-clause-enabled
returns-in-Fault-clause-enabled c = IfOk-weaker c.fault.result _ _ (λ may does. subst (λ event. IsTrue may ↔ IsEnabled c.args.self.now event) (sym c.in-Fault.is) does.enabled) c.fault.ensures.does
