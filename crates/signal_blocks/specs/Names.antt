-- Names of blocks and zones.
use Rattle.std.specs.Prelude.{ℕ, Bool, nat_eq, List, [], ◌∷◌, ◌++◌, length, map, slice_get}
use Rattle.std.specs.Prelude.{slice_index_or, Option, Some, None}
use Rattle.std.specs.List.{filter, flat_map, range_with_len}
use Rattle.signal_blocks.specs.Cuts.{block_count}
use Rattle.rail_types.specs.declared.infra_types.infras.Infra.{Infra}
use Rattle.rail_types.specs.declared.infra_types.routes.Route.{Route}
use Rattle.rail_types.specs.declared.infra_types.tracks.OperationalPoint.{OperationalPoint}
use Rattle.rail_types.specs.declared.infra_types.tracks.Track.{Track}
use Rattle.rail_types.specs.declared.named_network.BlockName.{BlockName}
use Rattle.rail_types.specs.declared.named_network.TrackPiece.{TrackPiece}
use Rattle.rail_types.specs.declared.named_network.ZoneName.{ZoneName}
use Rattle.route_walk.specs.declared.walks.Walk.{Walk}
use Rattle.track_graph.specs.declared.pieces.Piece.{Piece}
use Rattle.track_graph.specs.Layouts.{Layout, zone_at}
use Rattle.track_graph.specs.Pieces.{pieces_of}
use Rattle.signal_blocks.specs.declared.zones.ZonedPiece.{ZonedPiece}

-- the names of operational points, in the file's order
abbrev pub stop_names : List OperationalPoint → List (List ℕ)
stop_names points = map (λ point. point.id) points

-- the names of so many blocks of a route
abbrev pub route_parts : List ℕ → ℕ → List BlockName
route_parts id count =
    map (λ part. record { route = id; part = part }) (range_with_len 0 count)

-- the names of the blocks of all routes, each with its walk
abbrev pub block_names : List (Option ℕ) → List Route → List Walk → List BlockName
block_names sights [] walks = []
block_names sights (route ∷ routes) [] = []
block_names sights (route ∷ routes) (walk ∷ walks) =
    route_parts route.id (block_count sights walk) ++ block_names sights routes walks

-- no piece
abbrev pub no_piece : Piece
no_piece = record { track = 0; begin = 0; end = 0 }

-- the first pieces of a track, so many, with their zones
abbrev pub zoned_up_to : Layout → ℕ → ℕ → List ZonedPiece
zoned_up_to layout track count =
    map (λ n. record {
      zone = zone_at layout track n;
      piece = slice_index_or (pieces_of layout.pieces track) n no_piece;
    }) (range_with_len 0 count)

-- the pieces of a track with their zones, from its begin to its end
abbrev pub zoned_on : Layout → ℕ → List ZonedPiece
zoned_on layout track = zoned_up_to layout track (length (pieces_of layout.pieces track))

-- the pieces of all tracks with their zones, by track in file order
abbrev pub zoned_pieces : Layout → ℕ → List ZonedPiece
zoned_pieces layout tracks = flat_map (zoned_on layout) (range_with_len 0 tracks)

abbrev pub id_of : Option Track → List ℕ
id_of None = []
id_of (Some track) = track.id

-- the name of the track of that number
abbrev pub track_id : List Track → ℕ → List ℕ
track_id tracks number = id_of (slice_get tracks number)

-- a piece with the name of its track
abbrev pub track_piece : List Track → ZonedPiece → TrackPiece
track_piece tracks one = record {
  track = track_id tracks one.piece.track;
  begin = one.piece.begin;
  end = one.piece.end;
}

abbrev pub is_in_zone : ℕ → ZonedPiece → Bool
is_in_zone zone one = nat_eq one.zone zone

-- the pieces of a zone, in their order
abbrev pub zone_name : List Track → List ZonedPiece → ℕ → ZoneName
zone_name tracks pieces zone = record {
  pieces = map (track_piece tracks) (filter (is_in_zone zone) pieces);
}

-- the pieces of each zone
abbrev pub zone_names : Infra → Layout → List ZoneName
zone_names infra layout =
    map (zone_name infra.tracks (zoned_pieces layout (length infra.tracks)))
    (range_with_len 0 layout.count)
