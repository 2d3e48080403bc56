use Rattle.std.proofs.Common.{arith}
use Rattle.label_search.proofs.Leaving.{labels_in_hand}
use Rattle.label_search.proofs.firsts.explore_due.Goals as goal

pub take_up_all-requires-clause-in_hand : goal.take_up_all-requires-clause-in_hand
take_up_all-requires-clause-in_hand c label inside tick held = labels_in_hand c.args.plan.now c.args.trip.now c.args.book.now c.requires.plan c.args.search.now c.requires.search c.requires.consistent c.leave_later.new.queue 0 c.in_ok-leave_later.ensures.left label (omega arith) inside tick held

pub leave_later-requires-clause-outlook : goal.leave_later-requires-clause-outlook
leave_later-requires-clause-outlook c = c.at_the_end.ensures _
