use Rattle.std.proofs.Common.{◌≡◌, ◌++◌, drop, map}
use Rattle.std.specs.List.{All}
use Rattle.rail_types.specs.Named.{IsId}
use Rattle.rail_types.specs.declared.named_network.TrackPiece.{TrackPiece}
use Rattle.signal_blocks.specs.Names.{track_piece}
use Rattle.signal_blocks.proofs.zones.zone_name.Given as goal

abbrev pub invariant-pieces : goal.invariant-pieces
invariant-pieces l = record {
  rest : l.named ++ map (track_piece l.tracks) (drop l.one-index l.pieces) ≡ map (track_piece l.tracks) l.pieces;
  ids : All (λ (piece : TrackPiece). IsId piece.track) l.named;
}
