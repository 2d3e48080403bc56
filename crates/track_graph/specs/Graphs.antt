-- *Inside*: what a graph keeps.
use Rattle.std.specs.Prelude.{◌≡◌, ℕ, ◌<◌, ◌^◌, List, length, map, Option}
use Rattle.std.specs.List.{sum_by}
use Rattle.rail_types.specs.declared.infra_types.infras.Infra.{Infra}
use Rattle.track_graph.specs.declared.faults.GraphFault.{GraphFault}
use Rattle.track_graph.specs.declared.faults.GraphFault.TheVariants.{EndTwice, OffTrack, Memory}
use Rattle.track_graph.specs.declared.joints.Joint.{Joint}
use Rattle.track_graph.specs.declared.numbering.Zones.{Zones}
use Rattle.track_graph.specs.declared.pieces.Piece.{Piece}
use Rattle.track_graph.specs.declared.stands.Stand.{Stand}
use Rattle.track_graph.specs.declared.ways.Junction.{Junction}
use Rattle.track_graph.specs.Joints.{AreJoints, junction_of}
use Rattle.track_graph.specs.Layouts.{IsLayout, Layout, Tells}
use Rattle.track_graph.specs.PieceRows.{AreFirsts}

-- the layout of these tables
abbrev pub layout_of : Infra → List (List Stand) → List (List Stand) → List (List Piece) → Zones
    → Layout
layout_of infra stands stops pieces zones = record {
  infra = infra;
  stands = stands;
  stops = stops;
  pieces = pieces;
  count = zones.count;
  zones = zones.of_pieces.items;
}

-- The tables are those of a layout.
pub record IsGraph (layout : Layout) (firsts : List ℕ) (joints : List (Option Joint))
    (junctions : List Junction) : Type 0 where
  pub sound : IsLayout layout
  pub offsets : AreFirsts layout.pieces firsts
  pub few : sum_by length layout.pieces < 2 ^ 32
  pub named : AreJoints layout.infra.switches (length layout.infra.switches) 0 joints
  pub kept : junctions ≡ map junction_of layout.infra.switches

-- of the faults of an infrastructure, that of its ports
abbrev pub TellsOf : Infra → GraphFault → Type 0
TellsOf infra (EndTwice name end) = Tells infra (EndTwice name end)
TellsOf infra (OffTrack id) = ⊥
TellsOf infra Memory = Unit {0}
