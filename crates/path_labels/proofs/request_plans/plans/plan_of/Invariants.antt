use Rattle.path_labels.specs.Plans.{AreFirstPlanned}
use Rattle.path_labels.proofs.request_plans.plans.plan_of.Given as goal

abbrev pub invariant-loop-number : goal.invariant-loop-number
invariant-loop-number l = AreFirstPlanned l.net l.settings l.request l.places l.number l.planned
