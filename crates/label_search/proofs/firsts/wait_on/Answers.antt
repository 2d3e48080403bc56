use Rattle.label_search.proofs.Advancing.{advanced_none}
use Rattle.label_search.proofs.firsts.wait_on.Goals as goal

pub returns-clause-advanced : goal.returns-clause-advanced
returns-clause-advanced c = advanced_none c.args.plan.now c.args.search.now c.args.queue.now
