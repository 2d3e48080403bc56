use Rattle.std.proofs.Common.{arith, subst}
use Rattle.track_graph.specs.Marks.{AreMarked}
use Rattle.track_graph.proofs.Spreads.{IsFlooding, floods_on, last_within, row_is, row_below}
use Rattle.track_graph.proofs.flooding.flood.Goals as goal

pub bounds-rows-piece : goal.bounds-rows-piece
bounds-rows-piece c =
    let at_last = subst (IsFlooding c.args.rows.now c.args.start c.args.zone c.args.marks.now c.waits.marks) c.in-Some.ensures.items c.waits.invariant in
    let within = last_within _ _ _ _ _ _ _ at_last in
    omega (arith, c.requires.long)

pub mark_all-requires : goal.mark_all-requires
mark_all-requires c =
    let at_last = subst (IsFlooding c.args.rows.now c.args.start c.args.zone c.args.marks.now c.waits.marks) c.in-Some.ensures.items c.waits.invariant in
    let within = last_within _ _ _ _ _ _ _ at_last in
    let row = row_is c.args.rows.now c.in-Some.piece _ _ (omega (arith, c.requires.long)) c.index-rows-piece.is c.as_slice.ensures in
    row_below c.args.rows.now c.in-Some.piece _ _ c.requires.inside row (omega (arith, c.requires.long, c.waits.invariant.long))

pub waits-preserved : goal.waits-preserved
waits-preserved c =
    let at_last = subst (IsFlooding c.args.rows.now c.args.start c.args.zone c.args.marks.now c.waits.marks) c.in-Some.ensures.items c.waits.invariant in
    let within = last_within _ _ _ _ _ _ _ at_last in
    let row = row_is c.args.rows.now c.in-Some.piece _ _ (omega (arith, c.requires.long)) c.index-rows-piece.is c.as_slice.ensures in
    floods_on _ _ _ _ _ _ _ _ _ c.requires.both at_last (subst (λ row. AreMarked row c.args.zone c.waits.marks c.mark_all.new.marks c.pop.new.self.items c.mark_all.new.waiting.items) row c.in_ok-mark_all.ensures.ok)
