use Rattle.signal_blocks.proofs.Within.{few_pieces, pieces_own}
use Rattle.signal_blocks.proofs.zones.zone_names.Goals as goal

pub zoned_pieces-requires-clause-few : goal.zoned_pieces-requires-clause-few
zoned_pieces-requires-clause-few c = few_pieces c.args.infra.now c.args.graph.now c.requires.infra c.requires.graph

pub zoned_pieces-requires-clause-own : goal.zoned_pieces-requires-clause-own
zoned_pieces-requires-clause-own c = pieces_own c.args.infra.now c.args.graph.now c.requires.infra c.requires.graph
