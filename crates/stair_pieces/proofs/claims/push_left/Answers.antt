use Rattle.std.proofs.Common.{◌∙◌, ap}
use Rattle.stair_pieces.proofs.Walks.{left_kept, left_out}
use Rattle.stair_pieces.proofs.claims.push_left.Goals as goal
use Rattle.stair_pieces.proofs.claims.push_left.Goals.{then-gone-passage+in_ok-push, else-gone-passage}

pub loop-cell-preserved : goal.loop-cell-preserved
loop-cell-preserved c = elim c.if-gone-passage.branch [
  | then-gone-passage+in_ok-push w ↦ left_kept c.args.train.now c.args.gone c.loop-cell.cell-index c.as_slice-cell-items.result.now _ c.of-passage.result c.loop-cell-test.true c.of-passage.ensures c.args.passages.now.items c.loop-cell.passages.items c.if-gone-passage.passages.items c.loop-cell.invariant w.if-gone-passage.true (ap (λ v. v.items) w.passages-is ∙ w.in_ok-push.ensures.items)
  | else-gone-passage w ↦ left_out c.args.train.now c.args.gone c.loop-cell.cell-index c.as_slice-cell-items.result.now _ c.of-passage.result c.loop-cell-test.true c.of-passage.ensures c.args.passages.now.items c.loop-cell.passages.items c.if-gone-passage.passages.items c.loop-cell.invariant w.if-gone-passage.false (ap (λ v. v.items) w.passages-is)
]
