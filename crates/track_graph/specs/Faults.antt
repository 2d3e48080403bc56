-- What is wrong with the switches and positions of an infrastructure.
use Rattle.std.specs.Prelude.{◌≡◌, ℕ, ◌<◌, ◌⊎◌, Bool, nat_lt, List, ◌++◌, map, find, Option, Some}
use Rattle.std.specs.Prelude.{None, option_map}
use Rattle.std.specs.List.{flat_map, filter_map}
use Rattle.rail_types.specs.declared.infra_types.ends.TrackEnd.{TrackEnd}
use Rattle.rail_types.specs.declared.infra_types.infras.Infra.{Infra}
use Rattle.rail_types.specs.declared.infra_types.signals.Bal.{Bal}
use Rattle.rail_types.specs.declared.infra_types.signals.Signal.{Signal}
use Rattle.rail_types.specs.declared.infra_types.switches.Switch.{Switch}
use Rattle.rail_types.specs.declared.infra_types.tracks.OperationalPoint.{OperationalPoint}
use Rattle.rail_types.specs.declared.infra_types.tracks.Part.{Part}
use Rattle.rail_types.specs.declared.infra_types.tracks.Placed.{Placed}
use Rattle.rail_types.specs.declared.infra_types.tracks.Track.{Track}
use Rattle.track_graph.specs.Pieces.{length_of}
use Rattle.track_graph.specs.Ways.{HasPort}

-- a port stands earlier: by switch, then by the order of the switch's ports
abbrev pub IsEarlier : ℕ → ℕ → ℕ → ℕ → Type 0
IsEarlier number port other_number other_port =
    (number < other_number) ⊎ ((number ≡ other_number) × (port < other_port))

-- an earlier port has the same track end
abbrev pub IsTwice : List Switch → ℕ → ℕ → TrackEnd → Type 0
IsTwice switches number port end =
    HasPort switches number port end
    × ((n : ℕ) × (p : ℕ) × IsEarlier n p number port × HasPort switches n p end)

-- No port before this one names a track end for the second time.
abbrev pub AreOnceBefore : List Switch → ℕ → ℕ → Type 0
AreOnceBefore switches number port =
    (n p : ℕ) (end : TrackEnd) → IsEarlier n p number port → IsTwice switches n p end → ⊥

-- The first port that names a track end already named names this one.
abbrev pub IsFirstTwice : List Switch → TrackEnd → Type 0
IsFirstTwice switches end =
    (number : ℕ) × (port : ℕ) × IsTwice switches number port end
    × AreOnceBefore switches number port

-- No track end is named by two ports.
abbrev pub AreOnce : List Switch → Type 0
AreOnce switches = (n p : ℕ) (end : TrackEnd) → IsTwice switches n p end → ⊥

-- A name with a track and a position on it.
pub record Located : Type 0 where
  pub id : List ℕ
  pub track : ℕ
  pub position : ℕ

abbrev pub placed_at : Placed → Located
placed_at placed = record { id = placed.id; track = placed.track; position = placed.position }

abbrev pub kept_at : List ℕ → Option Bal → Option Located
kept_at id None = None
kept_at id (Some bal) = Some (record { id = id; track = bal.track; position = bal.position })

abbrev pub parts_at : OperationalPoint → List Located
parts_at point =
    map (λ part. record { id = point.id; track = part.track; position = part.position }) point.parts

-- whether a position is beyond its track
abbrev pub is_off : List Track → Located → Bool
is_off tracks located = nat_lt (length_of tracks located.track) located.position

-- whether a part's position is beyond its track
abbrev pub is_part_off : List Track → Part → Bool
is_part_off tracks part = nat_lt (length_of tracks part.track) part.position

-- the positions of the signals that are kept
abbrev pub signals_at : List Signal → List Located
signals_at signals = filter_map (λ signal. kept_at signal.id signal.bal) signals

-- the positions of the parts of operational points
abbrev pub points_at : List OperationalPoint → List Located
points_at points = flat_map parts_at points

-- the name of the first of these beyond its track
abbrev pub off_among : List Track → List Located → Option (List ℕ)
off_among tracks located = option_map (λ one. one.id) (find (is_off tracks) located)

-- all positions: of detectors, of buffer stops, of the signals that are kept, of operational points
abbrev pub all_located : Infra → List Located
all_located infra =
    (map placed_at infra.detectors ++ map placed_at infra.buffer_stops)
    ++ (signals_at infra.signals ++ points_at infra.points)

-- the name of the first position beyond its track
abbrev pub first_off : Infra → Option (List ℕ)
first_off infra = off_among infra.tracks (all_located infra)
