-- The detectors and the buffer stops along each track.
use Rattle.std.specs.Prelude.{◌≡◌, ℕ, ◌<◌, ◌⊎◌, ◌↔◌, List, [], length, slice_get, slice_index_or}
use Rattle.std.specs.Prelude.{Some}
use Rattle.std.specs.List.{AllPairs, Contains, sum_by}
use Rattle.rail_types.specs.declared.infra_types.tracks.Placed.{Placed}
use Rattle.track_graph.specs.declared.stands.Stand.{Stand}

-- Of the detectors, or of the buffer stops, that of this number is placed so.
pub record Stands (all : List Placed) (stand : Stand) : Type 0 where
  pub placed : Placed
  pub is : slice_get all stand.number ≡ Some placed
  pub track : placed.track ≡ stand.track
  pub position : placed.position ≡ stand.position

-- nearer to the track's begin, or at the same position and earlier in the file
abbrev pub ComesBefore : Stand → Stand → Type 0
ComesBefore one other =
    (one.position < other.position)
    ⊎ ((one.position ≡ other.position) × (one.number < other.number))

-- Those that stand on a track, from its begin to its end.
pub record AreStands (all : List Placed) (track : ℕ) (stands : List Stand) : Type 0 where
  pub order : AllPairs ComesBefore stands
  pub each : (stand : Stand) → Contains stands stand ↔ ((stand.track ≡ track) × Stands all stand)

-- those on the track of that number
abbrev pub stands_of : List (List Stand) → ℕ → List Stand
stands_of rows track = slice_index_or rows track []

-- The row of each track has those that stand on it; each has its place in some row.
pub record AreOnRows (all : List Placed) (tracks : ℕ) (rows : List (List Stand)) : Type 0 where
  pub long : length rows ≡ tracks
  pub many : sum_by length rows ≡ length all
  pub each : (track : ℕ) → track < tracks → AreStands all track (stands_of rows track)
