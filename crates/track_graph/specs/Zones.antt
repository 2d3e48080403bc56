-- Zones of joined pieces.
use Rattle.std.specs.Prelude.{◌≡◌, ℕ, ◌<◌, ◌↔◌, List, [], ◌∷◌, length, slice_index}
use Rattle.std.specs.List.{Contains}
use Rattle.rail_types.specs.declared.infra_types.ends.TrackEnd.{TrackEnd}
use Rattle.rail_types.specs.declared.infra_types.switches.Switch.{Switch}
use Rattle.track_graph.specs.declared.pieces.Piece.{Piece}
use Rattle.track_graph.specs.Pieces.{end_piece}

-- One switch has a port at an end of each piece.
abbrev pub AreJoined : List Switch → List (List Piece) → ℕ → ℕ → Type 0
AreJoined switches rows a b =
    (switch : Switch) × (one : TrackEnd) × (other : TrackEnd) × Contains switches switch
    × Contains switch.ports one × Contains switch.ports other × (end_piece rows one ≡ a)
    × (end_piece rows other ≡ b)

-- from a, each next one leads on to the one behind it, and the last to b
abbrev pub Leads : (ℕ → ℕ → Type 0) → ℕ → List ℕ → ℕ → Type 0
Leads next a [] b = a ≡ b
Leads next a (c ∷ via) b = next a c × Leads next c via b

-- A list of pieces leads from the one to the other, each joined to the next.
abbrev pub AreLinked : (ℕ → ℕ → Type 0) → ℕ → ℕ → Type 0
AreLinked joined a b = (via : List ℕ) × Leads joined a via b

-- The zone of each piece: linked pieces have one zone, and zones are numbered
-- from 0 by their first pieces.
pub record AreZones (joined : ℕ → ℕ → Type 0) (pieces count : ℕ) (zones : List ℕ) : Type 0 where
  pub long : length zones ≡ pieces
  pub same : (a b : ℕ) → a < pieces → b < pieces
      → (slice_index zones a ≡ slice_index zones b) ↔ AreLinked joined a b
  pub below : (a : ℕ) → a < pieces → slice_index zones a < count
  pub each : (zone : ℕ) → zone < count → (a : ℕ) × (a < pieces) × (slice_index zones a ≡ zone)
  -- each lesser zone has a piece before this one
  pub order : (b zone : ℕ) → b < pieces → zone < slice_index zones b
      → (a : ℕ) × (a < b) × (slice_index zones a ≡ zone)

-- Two numberings of the same pieces are the same.
abbrev pub ZonesAreOne : Type 0
ZonesAreOne =
    (switches : List Switch) (rows : List (List Piece)) (pieces one other : ℕ)
    (zones others : List ℕ)
    → AreZones (AreJoined switches rows) pieces one zones
    → AreZones (AreJoined switches rows) pieces other others
    → zones ≡ others
