use Rattle.label_search.proofs.Looking.{dwell_of_wait}
use Rattle.label_search.proofs.firsts.waited_at.Goals as goal

pub waited-requires : goal.waited-requires
waited-requires c = record {
  dwell = dwell_of_wait c.args.plan.now c.args.book.now c.requires.plan c.args.front.now.place
      c.requires.place c.place_at.result c.place_at.ensures;
}
