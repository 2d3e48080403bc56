use Rattle.std.proofs.Common.{rules, ◌≡◌, ◌++◌, get_or}
use Rattle.signal_blocks.specs.Blocks.{AreBlocksOf}
use Rattle.signal_blocks.proofs.Orders.{in_order_taken}
use Rattle.signal_blocks.proofs.block_cuts.networks.all_blocks.Goals as goal

pub walks-preserved : goal.walks-preserved
walks-preserved c =
    let joined : c.append.new.self.items ≡ c.walks.blocks.items ++ c.in_ok-own.own.items = search rules in
    let own : AreBlocksOf c.args.lines.now (get_or c.args.walks.now c.walks.walk-index c.walk-item.result) c.in_ok-own.own.items = rw (← c.walk-item.is) c.in_ok-own.ensures in
    rw joined (in_order_taken _ _ _ c.walk-item.result _ _ c.walks-test.true c.walks.invariant own)
