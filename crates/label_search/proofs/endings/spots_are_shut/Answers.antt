use Rattle.std.proofs.Common.{subst}
use Rattle.std.specs.Prelude.{pos}
use Rattle.std.proofs.lemmas.List.{get_or_default}
use Rattle.std.proofs.lemmas.List.Elements.{AllWithin-more}
use Rattle.label_search.specs.Endings.{AreShutFrom}
use Rattle.label_search.proofs.endings.spots_are_shut.Goals as goal

pub loop-number-preserved : goal.loop-number-preserved
loop-number-preserved c =
    AllWithin-more (AreShutFrom c.args.chart.now.spots c.args.blocks.now c.args.book.now c.args.trip.now (pos c.args.horizon)) c.args.numbers.now 0 c.loop-number.number-index c.loop-number.invariant
    (λ d. subst (AreShutFrom c.args.chart.now.spots c.args.blocks.now c.args.book.now c.args.trip.now (pos c.args.horizon)) (get_or_default c.args.numbers.now c.loop-number.number-index 0 d c.loop-number-test.true)
    (c.spot_is_shut.ensures c.if-not-spot_is_shut.false))
