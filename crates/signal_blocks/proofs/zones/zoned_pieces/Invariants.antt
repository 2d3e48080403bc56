use Rattle.std.proofs.Common.{◌≡◌, length}
use Rattle.std.specs.List.{All}
use Rattle.signal_blocks.specs.Inside.{IsZoned}
use Rattle.signal_blocks.specs.Names.{zoned_pieces}
use Rattle.signal_blocks.proofs.zones.zoned_pieces.Given as goal

abbrev pub invariant-tracks : goal.invariant-tracks
invariant-tracks l = record {
  same : l.pieces ≡ zoned_pieces l.graph l.track;
  zoned : All (IsZoned (length l.graph.infra.tracks) l.graph.count) l.pieces;
}
