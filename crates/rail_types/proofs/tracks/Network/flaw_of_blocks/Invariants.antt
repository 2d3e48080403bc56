use Rattle.std.proofs.Common.{◌≡◌, drop}
use Rattle.rail_types.specs.Flaws.{flaw_of_blocks}
use Rattle.rail_types.proofs.tracks.Network.flaw_of_blocks.Given as goal

-- the first flaw is that of the blocks that are left
abbrev pub invariant-loop-block : goal.invariant-loop-block
invariant-loop-block l = flaw_of_blocks l.self (drop l.block-index l.block-items) ≡ flaw_of_blocks l.self l.self.blocks
