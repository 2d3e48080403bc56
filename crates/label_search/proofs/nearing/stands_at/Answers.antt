use Rattle.label_search.proofs.Resting.{spot_past}
use Rattle.label_search.proofs.nearing.stands_at.Goals as goal

pub returns-in-None : goal.returns-in-None
returns-in-None c = spot_past c.args.chart.now.spots c.args.spot c.in-None.ensures
