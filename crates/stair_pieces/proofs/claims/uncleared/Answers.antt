use Rattle.std.proofs.Common.{inl, inr}
use Rattle.stair_pieces.proofs.Walks.{walk_ends}
use Rattle.stair_pieces.proofs.claims.uncleared.Goals as goal
use Rattle.stair_pieces.proofs.claims.uncleared.Goals.{then-loop-at-test+else-gone-train, else-loop-at-test}

pub returns : goal.returns
returns c = walk_ends c.args.net.now c.args.train.now c.args.tail.now c.loop-at.at c.loop-at.gone c.loop-at.passages.items c.requires.tail.blocks c.loop-at.invariant.gone c.loop-at.invariant.passages
    (elim c.loop-at-test.branch [
      | then-loop-at-test+else-gone-train w ↦ inr (w.if-gone-train.false)
      | else-loop-at-test w ↦ inl (w.loop-at-test.false)
    ])
