-- What a search looks at: a plan whose places are listed, or that of calls over a chart.
use Rattle.std.specs.Prelude.{List, map}
use Rattle.label_search.specs.declared.lent.Lender.{Lender}
use Rattle.label_search.specs.declared.lent.Lender.TheVariants as lender
use Rattle.label_search.specs.declared.lent.MovesLender.{MovesLender}
use Rattle.label_search.specs.declared.lent.MovesLender.TheVariants as moves_lender
use Rattle.label_search.specs.declared.plans.Move.{Move}
use Rattle.label_search.specs.declared.plans.Place.{Place}
use Rattle.label_search.specs.Charts.{move_of_way, open_among, places_over}

abbrev pub places_lent : Lender → List Place
places_lent (lender.Listed places) = places.now
places_lent (lender.Charted charted) =
    places_over charted.spots.now charted.starts.now charted.calls.now

abbrev pub moves_lent : MovesLender → List Move
moves_lent (moves_lender.Listed moves) = moves.now
moves_lent (moves_lender.Charted charted) =
    map (move_of_way charted.levels charted.made) (open_among charted.call.now charted.ways.now)
