use Rattle.std.proofs.Common.{◌≡◌, map}
use Rattle.std.specs.List.{All, range_with_len}
use Rattle.rail_types.specs.Named.{IsId}
use Rattle.rail_types.specs.declared.named_network.TrackPiece.{TrackPiece}
use Rattle.rail_types.specs.declared.named_network.ZoneName.{ZoneName}
use Rattle.signal_blocks.specs.Names.{zone_name}
use Rattle.signal_blocks.proofs.zones.names_of.Given as goal

abbrev pub invariant-zones : goal.invariant-zones
invariant-zones l = record {
  same : l.names ≡ map (zone_name l.tracks l.rows) (range_with_len 0 l.zone);
  ids : All (λ (zone : ZoneName). All (λ (piece : TrackPiece). IsId piece.track) zone.pieces) l.names;
}
