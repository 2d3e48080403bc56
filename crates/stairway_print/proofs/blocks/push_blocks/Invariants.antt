use Rattle.std.proofs.Common.{◌≡◌, ◌++◌, drop}
use Rattle.stairway_print.specs.Networks.{block_lines}
use Rattle.stairway_print.proofs.blocks.push_blocks.Given as goal

abbrev pub invariant-lines : goal.invariant-lines
invariant-lines l = record {
  text : l.to.items ++ block_lines l.stops l.number (drop l.number l.blocks) (drop l.number l.names) ≡ l.fn.to.items ++ block_lines l.stops 0 l.blocks l.names;
  count : l.number ≡ l.block-index;
}
