use Rattle.std.proofs.Common.{take}
use Rattle.signal_blocks.specs.CutNetworks.{AreInOrder}
use Rattle.signal_blocks.proofs.block_cuts.networks.all_blocks.Given as goal

abbrev pub invariant-walks : goal.invariant-walks
invariant-walks l = AreInOrder l.lines (take l.walk-index l.walks) l.blocks.items
