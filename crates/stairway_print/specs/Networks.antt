-- The table of a network, line by line.
use Rattle.std.specs.Prelude.{ℕ, ◌+◌, List, [], ◌∷◌, ◌++◌, codes, length, flat_map, slice_get}
use Rattle.std.specs.Prelude.{Option, Some, None}
use Rattle.rail_types.specs.declared.tracks.Block.{Block}
use Rattle.rail_types.specs.declared.tracks.Cell.{Cell}
use Rattle.rail_types.specs.declared.tracks.Network.{Network}
use Rattle.rail_types.specs.declared.named_network.BlockName.{BlockName}
use Rattle.rail_types.specs.declared.named_network.Named.{Named as Railway}
use Rattle.rail_types.specs.declared.named_network.TrackPiece.{TrackPiece}
use Rattle.rail_types.specs.declared.named_network.ZoneName.{ZoneName}
use Rattle.stairway_print.specs.Words.{numbered, named}

abbrev pub new_line : List ℕ
new_line = 10 ∷ []

-- ---- zones

-- a piece of track: its name, its begin and its end
abbrev pub piece_text : TrackPiece → List ℕ
piece_text piece =
    named (codes " ") piece.track ++ numbered (codes " ") piece.begin
    ++ numbered (codes " ") piece.end

abbrev pub pieces_text : List TrackPiece → List ℕ
pieces_text pieces = flat_map piece_text pieces

abbrev pub zone_line : ℕ → ZoneName → List ℕ
zone_line number zone =
    numbered (codes "zone ") number ++ numbered (codes " pieces ") (length zone.pieces)
    ++ pieces_text zone.pieces ++ new_line

-- zones from a number on, each with its line
abbrev pub zone_lines : ℕ → List ZoneName → List ℕ
zone_lines number [] = []
zone_lines number (zone ∷ zones) = zone_line number zone ++ zone_lines (number + 1) zones

-- ---- blocks

abbrev pub route_text : BlockName → List ℕ
route_text name = named (codes " route ") name.route ++ numbered (codes " part ") name.part

abbrev pub numbers_text : Block → List ℕ
numbers_text block =
    numbered (codes " length ") block.length_m ++ numbered (codes " speed ") block.speed
    ++ numbered (codes " sight ") block.sight_m

-- a cell: its zone and its release point
abbrev pub cell_text : Cell → List ℕ
cell_text cell = numbered (codes " ") cell.zone ++ numbered (codes " ") cell.release_m

abbrev pub cells_text : List Cell → List ℕ
cells_text cells = numbered (codes " cells ") (length cells) ++ flat_map cell_text cells

abbrev pub name_or_none : Option (List ℕ) → List ℕ
name_or_none None = []
name_or_none (Some name) = name

-- the name of an operational point
abbrev pub name_of : List (List ℕ) → ℕ → List ℕ
name_of stops stop = name_or_none (slice_get stops stop)

abbrev pub stop_text : List (List ℕ) → ℕ → List ℕ
stop_text stops stop = named (codes " ") (name_of stops stop)

abbrev pub serves_text : List (List ℕ) → List ℕ → List ℕ
serves_text stops serves =
    numbered (codes " serves ") (length serves) ++ flat_map (stop_text stops) serves

abbrev pub block_line : List (List ℕ) → ℕ → Block → BlockName → List ℕ
block_line stops number block name =
    numbered (codes "block ") number ++ route_text name ++ numbers_text block
    ++ cells_text block.cells ++ serves_text stops block.serves ++ new_line

-- blocks from a number on, each with its name and its line
abbrev pub block_lines : List (List ℕ) → ℕ → List Block → List BlockName → List ℕ
block_lines stops number [] names = []
block_lines stops number (block ∷ blocks) [] = []
block_lines stops number (block ∷ blocks) (name ∷ names) =
    block_line stops number block name ++ block_lines stops (number + 1) blocks names

-- ---- the whole

abbrev pub header_text : Network → List ℕ
header_text net =
    numbered (codes "zones ") net.zones ++ numbered (codes " blocks ") (length net.blocks)
    ++ numbered (codes " stops ") net.stops ++ new_line

abbrev pub network_text : Railway → List ℕ
network_text railway =
    header_text railway.network ++ zone_lines 0 railway.zones
    ++ block_lines railway.stops 0 railway.network.blocks railway.blocks
