use Rattle.std.proofs.Common.{◌≡◌, take}
use Rattle.rail_types.proofs.tracks.Network.copy.Given as goal

-- the blocks so far are equal to those passed
abbrev pub invariant-loop-block : goal.invariant-loop-block
invariant-loop-block l = l.blocks ≡ take l.block-index l.block-items
