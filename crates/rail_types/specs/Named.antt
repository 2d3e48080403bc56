-- Networks with names.
use Rattle.std.specs.Prelude.{◌≡◌, ℕ, ◌≤◌, List, length, All, None, IsUtf8}
use Rattle.rail_types.specs.Flaws.{first_flaw}
use Rattle.rail_types.specs.declared.limits.TheConstants.{MAX_ID_BYTES}
use Rattle.rail_types.specs.declared.tracks.Network.{Network}
use Rattle.rail_types.specs.declared.named_network.BlockName.{BlockName}
use Rattle.rail_types.specs.declared.named_network.Named.{Named as named}
use Rattle.rail_types.specs.declared.named_network.TrackPiece.{TrackPiece}
use Rattle.rail_types.specs.declared.named_network.ZoneName.{ZoneName}

-- The name of an object in a file: 1 to 255 bytes of UTF-8.
pub record IsId (id : List ℕ) : Type 0 where
  pub least : 1 ≤ length id
  pub most : length id ≤ MAX_ID_BYTES
  pub text : IsUtf8 id

-- Each operational point, block and zone of the network has a name, and the network has no flaw.
pub record IsNamed (railway : named) : Type 0 where
  pub sound : first_flaw railway.network ≡ None
  pub stops : length railway.stops ≡ railway.network.stops
  pub blocks : length railway.blocks ≡ length railway.network.blocks
  pub zones : length railway.zones ≡ railway.network.zones
  pub stop_ids : All IsId railway.stops
  pub route_ids : All (λ block. IsId block.route) railway.blocks
  pub track_ids : All (λ zone. All (λ piece. IsId piece.track) zone.pieces) railway.zones
