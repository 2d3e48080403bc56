use Rattle.std.proofs.Common.{◌∙◌, arith}
use Rattle.std.proofs.lemmas.Int.{clamps, ints}
use Rattle.label_search.proofs.Starting.{started_search}
use Rattle.label_search.proofs.searches.start.Goals as goal

pub returns-clause-search : goal.returns-clause-search
returns-clause-search c =
    started_search c.args.plan.now c.args.trip.now c.args.book.now c.in_ok-labels.labels c.add.new.self _ c.requires.plan.start c.in_ok-labels.ensures.labels (c.in_ok-labels.ensures.places ∙ c.count.ensures) c.departures.ensures.from c.departures.ensures.to c.add.ensures.places c.add.ensures.grown c.args.limits c.requires.limits

pub returns-clause-started : goal.returns-clause-started
returns-clause-started c = λ enter held low high.
    let from = c.departures.ensures.from in
    let to = c.departures.ensures.to in
    let first = held.0 in
    let last = held.1 in
    c.in_ok-add.ensures.reached enter (omega (arith, ints, clamps), omega (arith, ints, clamps))
