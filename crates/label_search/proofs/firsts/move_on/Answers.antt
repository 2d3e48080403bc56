use Rattle.std.proofs.Common.{◌∙◌, ap}
use Rattle.label_search.specs.declared.plans.Place.{Place}
use Rattle.label_search.specs.Charts.{move_among}
use Rattle.label_search.proofs.Advancing.{advanced_none}
use Rattle.label_search.proofs.firsts.move_on.Goals as goal

pub returns-then-onward-count-clause-advanced : goal.returns-then-onward-count-clause-advanced
returns-then-onward-count-clause-advanced c = advanced_none c.args.plan.now c.args.search.now c.args.queue.now

pub returns-then-not-part-clause-advanced : goal.returns-then-not-part-clause-advanced
returns-then-not-part-clause-advanced c = advanced_none c.args.plan.now c.args.search.now c.args.queue.now

pub go_on-requires-clause-step : goal.go_on-requires-clause-step
go_on-requires-clause-step c =
    c.get.ensures ∙ ap (λ (p : Place). move_among p.moves c.args.onward.number) (c.place.view_is ∙ c.place_at-place.ensures)
