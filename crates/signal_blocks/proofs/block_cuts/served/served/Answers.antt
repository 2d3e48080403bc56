use Rattle.signal_blocks.proofs.Stops.{ascending_once}
use Rattle.signal_blocks.proofs.block_cuts.served.served.Goals as goal

pub returns : goal.returns
returns c = rw c.from_vec.ensures (ascending_once _ _ _ _ _ c.in_ok-stops.ensures c.sort_unstable.ensures.permutation c.sort_unstable.ensures.sorted c.dedup.ensures.filtered)
