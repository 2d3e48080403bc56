use Rattle.std.specs.Prelude.{pos}
use Rattle.std.proofs.lemmas.List.Elements.{AllWithin-more, at_read}
use Rattle.label_search.specs.Endings.{IsShutWay}
use Rattle.label_search.proofs.endings.are_shut.Goals as goal

pub loop-way-preserved : goal.loop-way-preserved
loop-way-preserved c =
    AllWithin-more (IsShutWay c.args.blocks.now c.args.book.now c.args.trip.now (pos c.args.horizon)) c.args.ways.now 0 c.loop-way.way-index c.loop-way.invariant
    (λ d. at_read c.args.ways.now (IsShutWay c.args.blocks.now c.args.book.now c.args.trip.now (pos c.args.horizon)) c.loop-way.way-index c.way-item.result c.loop-way-test.true c.way-item.is
    (c.is_shut.ensures c.if-not-is_shut.false) d)
