use Rattle.std.proofs.Common.{◌≡◌, fold, take}
use Rattle.stair_pieces.specs.Alike.{word_with}
use Rattle.stair_pieces.proofs.places.word_of.Given as goal

abbrev pub invariant-loop-block : goal.invariant-loop-block
invariant-loop-block l = l.word ≡ fold word_with l.fn.other (take l.block-index l.fn.tail)
