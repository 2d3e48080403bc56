use Rattle.std.proofs.Common.{◌≡◌, ◌++◌, drop}
use Rattle.signal_blocks.specs.Names.{block_names}
use Rattle.signal_blocks.proofs.names.block_names.Given as goal

abbrev pub invariant-walks : goal.invariant-walks
invariant-walks l = l.names ++ block_names l.sights (drop l.number l.routes) (drop l.number l.walks) ≡ block_names l.sights l.routes l.walks
