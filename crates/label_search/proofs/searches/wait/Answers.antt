use Rattle.std.proofs.Common.{refl}
use Rattle.label_search.proofs.Growth.{search_more}
use Rattle.label_search.proofs.Reaching.{wanted_of_wait}
use Rattle.label_search.proofs.searches.wait.Goals as goal

pub returns-clause-search : goal.returns-clause-search
returns-clause-search c =
    search_more c.args.plan.now c.args.trip.now c.args.book.now c.args.search.now _ _ c.requires.search
    (wanted_of_wait c.args.plan.now c.args.trip.now c.args.book.now c.args.search.now.labels.labels c.args.front.now.place c.args.front.now.ticks c.args.ticks.now c.requires.ticks c.requires.front.place c.requires.waited)
    c.add.ensures.places c.add.ensures.grown refl refl
