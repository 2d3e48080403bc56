use Rattle.std.proofs.Common.{ap}
use Rattle.label_search.specs.declared.plans.Plan.{Plan}
use Rattle.label_search.proofs.Lending.{places_counted}
use Rattle.label_search.proofs.lent.LentPlan.count.Goals as goal

pub returns-in-Charted : goal.returns-in-Charted
returns-in-Charted c =
    places_counted c.self.inside.lender c.in-Charted.charted c.args.self.now.places c.in-Charted.is
    (ap (λ (plan : Plan). plan.places) c.self.view_is)
