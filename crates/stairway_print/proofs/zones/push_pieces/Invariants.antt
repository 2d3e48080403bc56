use Rattle.std.proofs.Common.{◌≡◌, ◌++◌, drop}
use Rattle.stairway_print.specs.Networks.{pieces_text}
use Rattle.stairway_print.proofs.zones.push_pieces.Given as goal

abbrev pub invariant-pieces : goal.invariant-pieces
invariant-pieces l = l.to.items ++ pieces_text (drop l.piece-index l.pieces) ≡ l.fn.to.items ++ pieces_text l.pieces
