use Rattle.std.proofs.Common.{ap, arith, ◌∙◌}
use Rattle.label_search.specs.declared.plans.Plan.{Plan}
use Rattle.label_search.proofs.Lending.{places_counted, place_lent}
use Rattle.label_search.proofs.lent.LentPlan.place.Goals as goal

pub charted_place-requires : goal.charted_place-requires
charted_place-requires c =
    let counted = places_counted c.self.inside.lender c.in-Charted.charted c.args.self.now.places
    c.in-Charted.is (ap (λ (plan : Plan). plan.places) c.self.view_is) in
    let within = c.requires in
    omega arith

pub returns-in-Charted : goal.returns-in-Charted
returns-in-Charted c =
    let places = ap (λ (plan : Plan). plan.places) c.self.view_is in
    let counted = places_counted c.self.inside.lender c.in-Charted.charted c.args.self.now.places
    c.in-Charted.is places in
    let within = c.requires in
    c.charted_place.ensures ∙ place_lent c.self.inside.lender c.in-Charted.charted
    c.args.self.now.places c.args.number c.in-Charted.is places (omega arith)
