-- What is ahead as a search looks at it: by a list, or as sums over a chart.
use Rattle.std.specs.Prelude.{List, map}
use Rattle.label_search.specs.declared.lent_limits.AheadLender.{AheadLender}
use Rattle.label_search.specs.declared.lent_limits.AheadLender.TheVariants.{Listed, Summed}
use Rattle.label_search.specs.declared.limits.Ahead.{Ahead}
use Rattle.label_search.specs.Nearing.{aheads_over}

abbrev pub aheads_lent : AheadLender → List Ahead
aheads_lent (Listed ahead) = ahead.now
aheads_lent (Summed summed) =
    aheads_over summed.chart.now.spots summed.calls.now (map (λ near. near.now) summed.nears.now)
    summed.rests.now
