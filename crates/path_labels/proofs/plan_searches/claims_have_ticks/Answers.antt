use Rattle.path_labels.proofs.Telling.{holds_ticks}
use Rattle.path_labels.proofs.plan_searches.claims_have_ticks.Goals as goal

pub returns : goal.returns
returns c = holds_ticks c.args.book.now c.zones.ensures.book
