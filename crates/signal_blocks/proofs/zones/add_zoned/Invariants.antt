use Rattle.std.proofs.Common.{◌≡◌, ◌++◌, length}
use Rattle.std.specs.List.{All}
use Rattle.signal_blocks.specs.Inside.{IsZoned}
use Rattle.signal_blocks.specs.Names.{zoned_up_to}
use Rattle.signal_blocks.proofs.zones.add_zoned.Given as goal

abbrev pub invariant-pieces : goal.invariant-pieces
invariant-pieces l = record {
  same : l.to ≡ l.initial.to ++ zoned_up_to l.graph l.track l.number;
  zoned : All (IsZoned (length l.graph.infra.tracks) l.graph.count) l.to;
}
