use Rattle.std.proofs.Common.{arith}
use Rattle.signal_blocks.proofs.Whole.{each_few, is_named}
use Rattle.signal_blocks.proofs.networks.named_network.Goals as goal

pub all_names-requires-clause-few : goal.all_names-requires-clause-few
all_names-requires-clause-few c = λ k d lt. (let h = each_few c.args.railway.now.lines.sights c.args.railway.now.walks 65536 c.in_ok-network.ensures.few k d lt in omega (arith, h))

pub returns-clause-network : goal.returns-clause-network
returns-clause-network c = record {
  layout = c.args.graph.now;
  railway = c.args.railway.now;
  is = c.requires.railway;
  sound = c.requires.none;
  network = c.in_ok-network.ensures.network;
  stops = c.in_ok-stops.ensures.stops;
  blocks = c.in_ok-stops.ensures.blocks;
  zones = c.in_ok-stops.ensures.zones;
}

pub returns-clause-named : goal.returns-clause-named
returns-clause-named c =
    is_named c.args.infra.now _ c.requires.infra (record {
      layout = c.args.graph.now;
      railway = c.args.railway.now;
      is = c.requires.railway;
      sound = c.requires.none;
      network = c.in_ok-network.ensures.network;
      stops = c.in_ok-stops.ensures.stops;
      blocks = c.in_ok-stops.ensures.blocks;
      zones = c.in_ok-stops.ensures.zones;
    }) c.in_ok-network.ensures.sound c.in_ok-network.ensures.count c.in_ok-stops.ensures.ids
