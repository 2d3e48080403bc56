use Rattle.std.proofs.Common.{◌≡◌, ◌+◌, ◌<◌, ℕ, length, slice_index, slice_index_or}
use Rattle.signal_blocks.specs.Blocks.{IsBlock}
use Rattle.rail_types.specs.declared.tracks.Block.{Block}
use Rattle.signal_blocks.proofs.block_cuts.blocks.blocks_of.Given as goal

abbrev pub invariant-cuts : goal.invariant-cuts
invariant-cuts l = record { many : length l.blocks.items + 1 ≡ l.next; each : (k : ℕ) (d : Block) → k + 1 < l.next → IsBlock l.lines l.walk (slice_index l.cuts k) (slice_index l.cuts (k + 1)) (slice_index_or l.blocks.items k d) }
