use Rattle.std.proofs.Common.{◌≡◌, ◌++◌, take}
use Rattle.blocking_time.specs.Passages.{passages_of}
use Rattle.stair_pieces.specs.Places.{left_after}
use Rattle.stair_pieces.proofs.claims.push_left.Given as goal

abbrev pub invariant-loop-cell : goal.invariant-loop-cell
invariant-loop-cell l = l.passages.items ≡ l.fn.passages.items ++ left_after l.gone (passages_of l.train (take l.cell-index l.cell-items))
