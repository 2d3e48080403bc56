-- The layout of an infrastructure: its pieces and their zones.
use Rattle.std.specs.Prelude.{◌≡◌, ℕ, ◌+◌, ◌↔◌, List, length, Option, Some, None, slice_get}
use Rattle.std.specs.Prelude.{slice_index, option_map}
use Rattle.std.specs.List.{sum_by}
use Rattle.rail_types.specs.declared.infra_types.ends.TrackEnd.{TrackEnd}
use Rattle.rail_types.specs.declared.infra_types.infras.Infra.{Infra}
use Rattle.rail_types.specs.declared.infra_types.switches.Group.{Group}
use Rattle.track_graph.specs.declared.faults.GraphFault.{GraphFault}
use Rattle.track_graph.specs.declared.faults.GraphFault.TheVariants.{EndTwice, OffTrack, Memory}
use Rattle.track_graph.specs.declared.pieces.Piece.{Piece}
use Rattle.track_graph.specs.declared.stands.Stand.{Stand}
use Rattle.track_graph.specs.Faults.{AreOnce, IsFirstTwice, first_off}
use Rattle.track_graph.specs.Pieces.{ArePieceRows, first_of}
use Rattle.track_graph.specs.Stands.{AreOnRows}
use Rattle.track_graph.specs.Ways.{HasPort, LeadsTo}
use Rattle.track_graph.specs.Zones.{AreJoined, AreZones}

-- An infrastructure with the detectors, the buffer stops and the pieces of each
-- track, and the zone of each piece.
pub record Layout : Type 0 where
  pub infra : Infra
  pub stands : List (List Stand)
  pub stops : List (List Stand)
  pub pieces : List (List Piece)
  pub count : ℕ
  pub zones : List ℕ

-- What holds of each layout.
pub record IsLayout (layout : Layout) : Type 0 where
  pub stands : AreOnRows layout.infra.detectors (length layout.infra.tracks) layout.stands
  pub stops : AreOnRows layout.infra.buffer_stops (length layout.infra.tracks) layout.stops
  pub pieces : ArePieceRows layout.infra.tracks layout.stands (length layout.infra.tracks)
      layout.pieces
  pub zones : AreZones (AreJoined layout.infra.switches layout.pieces) (sum_by length layout.pieces)
      layout.count layout.zones
  pub once : AreOnce layout.infra.switches
  pub within : first_off layout.infra ≡ None

-- the zone of a track's piece of that number
abbrev pub zone_at : Layout → ℕ → ℕ → ℕ
zone_at layout track piece = slice_index layout.zones (first_of layout.pieces track + piece)

-- The layout of this infrastructure.
pub record IsLayoutOf (infra : Infra) (layout : Layout) : Type 0 where
  pub is : layout.infra ≡ infra
  pub sound : IsLayout layout

-- the track of that number has this name
abbrev pub IsNamed : Infra → ℕ → List ℕ → Type 0
IsNamed infra track name = option_map (λ one. one.id) (slice_get infra.tracks track) ≡ Some name

-- The end to which the group leads from this one, None where no switch or no such way is there.
abbrev pub IsStep : Layout → TrackEnd → Group → Option TrackEnd → Type 0
IsStep layout end group found =
    (next : TrackEnd) → (found ≡ Some next) ↔ LeadsTo layout.infra.switches end group next

-- the switch of that number has a port at this end
abbrev pub HasSwitch : Layout → TrackEnd → ℕ → Type 0
HasSwitch layout end number = (port : ℕ) × HasPort layout.infra.switches number port end

-- The switch with a port at this end, None where none has one.
abbrev pub IsSwitchAt : Layout → TrackEnd → Option ℕ → Type 0
IsSwitchAt layout end found = (number : ℕ) → (found ≡ Some number) ↔ HasSwitch layout end number

-- The first port whose track end has one already, or else the first position beyond its track.
abbrev pub Tells : Infra → GraphFault → Type 0
Tells infra (EndTwice name end) =
    (track : ℕ) × IsNamed infra track name
    × IsFirstTwice infra.switches (record { track = track; end = end })
Tells infra (OffTrack id) = AreOnce infra.switches × (first_off infra ≡ Some id)
Tells infra Memory = Unit {0}
