use Rattle.std.proofs.Common.{◌<◌, ℕ, arith, get_or, length, None}
use Rattle.std.proofs.lemmas.List.{take_more}
use Rattle.track_graph.proofs.Marking.{marks_same, marks_more, none_from, some_from}
use Rattle.track_graph.proofs.flooding.mark_all.Goals as goal
use Rattle.track_graph.proofs.flooding.mark_all.Goals.{then-is_none+in_ok-push, else-is_none}

pub row-preserved : goal.row-preserved
row-preserved c =
    let piece : ℕ = get_or c.args.pieces.now c.row.piece-index 0 in
    let within : piece < length c.row.marks = (let it = c.requires c.row.piece-index 0 c.row-test.true in omega (arith, c.row.invariant.long)) in
    rw (take_more c.args.pieces.now c.row.piece-index 0 c.row-test.true) (elim c.if-is_none.branch [
      | then-is_none+in_ok-push w ↦ rw (w.marks-is, w.waiting-is, w.in_ok-push.ensures.items) (marks_more _ _ _ _ _ _ piece c.row.invariant within (none_from _ w.if-is_none.ensures))
      | else-is_none w ↦ rw (w.marks-is, w.waiting-is) (let had = some_from (get_or c.row.marks piece None) w.if-is_none.ensures in marks_same _ _ _ _ _ _ piece c.row.invariant had.0 had.1)
    ])
