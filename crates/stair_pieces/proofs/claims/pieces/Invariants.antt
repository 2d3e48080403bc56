use Rattle.std.proofs.Common.{◌≡◌, ◌++◌, map, take}
use Rattle.blocking_time.specs.Passages.{passages_of}
use Rattle.stair_pieces.specs.Pieces.{piece}
use Rattle.stair_pieces.proofs.claims.pieces.Given as goal

abbrev pub invariant-loop-cell : goal.invariant-loop-cell
invariant-loop-cell l = l.claims.items ≡ map (piece l.net l.settings l.train l.place l.step l.fresh.from) (passages_of l.train (take l.cell-index l.cell-items))

abbrev pub invariant-loop-passage : goal.invariant-loop-passage
invariant-loop-passage l = l.claims.items ≡ l.initial.claims.items ++ map (piece l.net l.settings l.train l.place l.step l.entered.from) (take l.passage-index l.passage-items)
