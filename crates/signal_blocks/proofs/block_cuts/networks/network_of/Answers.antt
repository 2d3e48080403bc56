use Rattle.std.proofs.Common.{refl}
use Rattle.signal_blocks.proofs.Counts.{all_counted}
use Rattle.signal_blocks.proofs.Lengths.{fine_walks}
use Rattle.signal_blocks.proofs.NetFlaws.{few_blocks, no_flaw_in}
use Rattle.signal_blocks.specs.CutNetworks.{AreInOrder}
use Rattle.signal_blocks.proofs.block_cuts.networks.network_of.Goals as goal

pub all_blocks-requires : goal.all_blocks-requires
all_blocks-requires c = rw c.as_slice.ensures (fine_walks c.args.railway.now c.requires.railway c.requires.none)

pub returns-clause-count : goal.returns-clause-count
returns-clause-count c =
    let blocks : AreInOrder c.args.railway.now.lines c.args.railway.now.walks c.in_ok-blocks.blocks.items = rw (← c.as_slice.ensures) c.in_ok-blocks.ensures in
    rw c.from_vec.ensures (all_counted c.args.railway.now.lines c.args.railway.now.walks c.in_ok-blocks.blocks.items blocks)

pub returns-clause-few : goal.returns-clause-few
returns-clause-few c = few_blocks c.args.railway.now c.requires.none

pub returns-clause-sound : goal.returns-clause-sound
returns-clause-sound c =
    let blocks : AreInOrder c.args.railway.now.lines c.args.railway.now.walks c.in_ok-blocks.blocks.items = rw (← c.as_slice.ensures) c.in_ok-blocks.ensures in
    rw c.from_vec.ensures (no_flaw_in c.args.railway.now _ c.requires.railway c.requires.none record { zones = refl; points = refl; stops = refl; blocks = blocks })
