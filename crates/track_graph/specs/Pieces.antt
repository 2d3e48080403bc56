-- Pieces of track, between detectors.
use Rattle.std.specs.Prelude.{◌≡◌, ℕ, ◌+◌, ◌-◌, ◌<◌, ◌≤◌, ◌↔◌, List, [], ◌∷◌, length, take}
use Rattle.std.specs.Prelude.{slice_get, slice_index_or, Option, Some, None}
use Rattle.std.specs.List.{All, Contains, sum_by}
use Rattle.std.specs.List.Sorted.{IsStrictlyIncreasing}
use Rattle.rail_types.specs.declared.infra_types.tracks.Track.{Track}
use Rattle.rail_types.specs.declared.infra_types.ends.End.{End}
use Rattle.rail_types.specs.declared.infra_types.ends.End.TheVariants as ends
use Rattle.rail_types.specs.declared.infra_types.ends.TrackEnd.{TrackEnd}
use Rattle.track_graph.specs.declared.pieces.Piece.{Piece}
use Rattle.track_graph.specs.declared.stands.Stand.{Stand}
use Rattle.track_graph.specs.Stands.{stands_of}

-- a detector stands at this position
abbrev pub IsCut : List Stand → ℕ → Type 0
IsCut stands position = (stand : Stand) × Contains stands stand × (stand.position ≡ position)

-- The positions of a track's detectors, each once, from its begin on.
pub record AreCuts (stands : List Stand) (cuts : List ℕ) : Type 0 where
  pub rise : IsStrictlyIncreasing cuts
  pub each : (position : ℕ) → Contains cuts position ↔ IsCut stands position

-- the pieces of a track from a position to its end, cut at these positions
abbrev pub pieces_from : ℕ → ℕ → List ℕ → ℕ → List Piece
pieces_from track begin [] length_m = record { track = track; begin = begin; end = length_m } ∷ []
pieces_from track begin (cut ∷ cuts) length_m =
    record { track = track; begin = begin; end = cut } ∷ pieces_from track cut cuts length_m

abbrev pub metres_of : Option Track → ℕ
metres_of None = 0
metres_of (Some track) = track.length

-- the length of the track of that number
abbrev pub length_of : List Track → ℕ → ℕ
length_of tracks track = metres_of (slice_get tracks track)

-- each stands within the track of that number
abbrev pub AreOn : List Track → ℕ → List Stand → Type 0
AreOn tracks track row = All (λ stand. stand.position ≤ length_of tracks track) row

-- The pieces of a track of so many metres that is cut at these detectors.
abbrev pub ArePieces : ℕ → ℕ → List Stand → List Piece → Type 0
ArePieces track length_m stands pieces =
    (cuts : List ℕ) × AreCuts stands cuts × (pieces ≡ pieces_from track 0 cuts length_m)

-- the pieces of the track of that number
abbrev pub pieces_of : List (List Piece) → ℕ → List Piece
pieces_of rows track = slice_index_or rows track []

-- the pieces of a track that is cut at these detectors
abbrev pub AreCutFrom : List Track → List (List Stand) → List (List Piece) → ℕ → Type 0
AreCutFrom tracks stands rows track =
    ArePieces track (length_of tracks track) (stands_of stands track) (pieces_of rows track)

-- The row of each track below done has its pieces; they are no more than detectors and tracks.
pub record ArePieceRows (tracks : List Track) (stands : List (List Stand)) (done : ℕ)
    (rows : List (List Piece)) : Type 0 where
  pub long : length rows ≡ done
  pub each : (track : ℕ) → track < done → AreCutFrom tracks stands rows track
  pub many : sum_by length rows ≤ sum_by length (take done stands) + done

-- how many pieces the tracks before this one have: the number of its first piece
abbrev pub first_of : List (List Piece) → ℕ → ℕ
first_of rows track = sum_by length (take track rows)

abbrev pub piece_at : List (List Piece) → ℕ → End → ℕ
piece_at rows track ends.Begin = first_of rows track
piece_at rows track ends.End = first_of rows (track + 1) - 1

-- the number of the piece at an end of a track
abbrev pub end_piece : List (List Piece) → TrackEnd → ℕ
end_piece rows end = piece_at rows end.track end.end
