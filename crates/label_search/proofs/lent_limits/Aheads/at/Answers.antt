use Rattle.std.proofs.Common.{◌∙◌, List, ap}
use Rattle.label_search.specs.declared.limits.Ahead.{Ahead}
use Rattle.label_search.specs.Limits.{ahead_at}
use Rattle.label_search.proofs.Lending.{sums_lent}
use Rattle.label_search.proofs.lent_limits.Aheads.at.Goals as goal

pub sum_of_place-requires-clause-dwells : goal.sum_of_place-requires-clause-dwells
sum_of_place-requires-clause-dwells c = c.in-Summed.summed.dwells

pub sum_of_place-requires-clause-nears : goal.sum_of_place-requires-clause-nears
sum_of_place-requires-clause-nears c = c.in-Summed.summed.near

pub sum_of_place-requires-clause-rests : goal.sum_of_place-requires-clause-rests
sum_of_place-requires-clause-rests c = c.in-Summed.summed.left

pub returns-in-Summed-clause-value : goal.returns-in-Summed-clause-value
returns-in-Summed-clause-value c =
    c.sum_of_place.ensures.value
    ∙ ap (λ (all : List Ahead). ahead_at all c.args.place) (sums_lent c.self.inside.lender c.in-Summed.summed c.args.self.now c.in-Summed.is c.self.view_is)
