use Rattle.std.proofs.Common.{◌≡◌, ◌++◌, take}
use Rattle.std.specs.List.{flat_map}
use Rattle.proof_texts.specs.Prints.{block_text}
use Rattle.proof_texts.proofs.prints.print_each_block.Given as goal

abbrev pub invariant-loop-block : goal.invariant-loop-block
invariant-loop-block l = l.to.held ≡ l.fn.to.held ++ flat_map block_text (take l.block-index l.blocks)
