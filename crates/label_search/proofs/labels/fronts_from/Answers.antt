use Rattle.label_search.proofs.Fronts.{fronts_more}
use Rattle.label_search.proofs.labels.fronts_from.Goals as goal

pub loop-number-preserved : goal.loop-number-preserved
loop-number-preserved c = fronts_more _ _ c.loop-number.number _ _ _ _ c.requires.some c.loop-number-test.true c.front_of.ensures c.in_ok-push.ensures.items c.loop-number.invariant
