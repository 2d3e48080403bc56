-- The railway of the demo: a track of 80,000 m between two buffer stops, with a detector and a
-- signal every 2000 m, and one route along it; a timetable without planned trains, and one train.
use Rattle.std.specs.Prelude.{ℕ, zero, suc, false, ◌+◌, ◌*◌, ◌-◌, List, [], ◌∷◌, ◌++◌, codes}
use Rattle.std.specs.Prelude.{nat_eq, if◌then◌else◌}
use Rattle.rail_types.specs.declared.named_network.BlockName.{BlockName}
use Rattle.rail_types.specs.declared.named_network.Named.{Named}
use Rattle.rail_types.specs.declared.named_network.TrackPiece.{TrackPiece}
use Rattle.rail_types.specs.declared.named_network.ZoneName.{ZoneName}
use Rattle.rail_types.specs.Timetables.{Timetable, timetable_of}
use Rattle.rail_types.specs.declared.bases.Base.{Base}
use Rattle.rail_types.specs.declared.entries.Settings.{Settings}
use Rattle.rail_types.specs.declared.tracks.Block.{Block}
use Rattle.rail_types.specs.declared.tracks.Cell.{Cell}
use Rattle.rail_types.specs.declared.tracks.Network.{Network}
use Rattle.rail_types.specs.declared.trains.Train.{Train}

-- ---- the network

-- how many blocks the route has, each of its own zone
abbrev pub block_count : ℕ
block_count = 40

-- Points. Detector d, from 0 to 38, is point 2d in the direction of the route, and the
-- buffer stops stand behind the detectors: the first block begins at the western one, and
-- the last ends at the eastern one.
abbrev pub begin_of : ℕ → ℕ
begin_of at = if nat_eq at 0 then 78 else 2 * (at - 1)

abbrev pub end_of : ℕ → ℕ
end_of at = if nat_eq at 39 then 80 else 2 * at

-- each block but the first begins at a signal that is seen from 400 m
abbrev pub sight_of : ℕ → ℕ
sight_of at = if nat_eq at 0 then 0 else 400

-- the first block serves W, and the last serves E
abbrev pub served_by : ℕ → List ℕ
served_by at = if nat_eq at 0 then 0 ∷ [] else (if nat_eq at 39 then 1 ∷ [] else [])

-- the one cell of a block is released at the block's end
abbrev pub cell_of : ℕ → Cell
cell_of at = record { zone = at; release_m = 2000 }

-- a block, by its number
abbrev pub block_at : ℕ → Block
block_at at = record {
  length_m = 2000;
  speed = 200000;
  sight_m = sight_of at;
  cells = cell_of at ∷ [];
  from_point = begin_of at;
  to_point = end_of at;
  serves = served_by at;
}

-- so many blocks, from 0 on
unfoldable pub first_blocks : ℕ → List Block
first_blocks zero = []
first_blocks (suc count) = first_blocks count ++ block_at count ∷ []

abbrev pub demo_network : Network
demo_network =
    record { zones = block_count; points = 82; stops = 2; blocks = first_blocks block_count }

-- ---- its names

-- a block is a part of the route
abbrev pub block_name_at : ℕ → BlockName
block_name_at at = record { route = codes "W->E"; part = at }

unfoldable pub first_block_names : ℕ → List BlockName
first_block_names zero = []
first_block_names (suc count) = first_block_names count ++ block_name_at count ∷ []

-- a zone is a piece of the track
abbrev pub piece_at : ℕ → TrackPiece
piece_at at = record { track = codes "T"; begin = 2000 * at; end = 2000 * at + 2000 }

abbrev pub zone_name_at : ℕ → ZoneName
zone_name_at at = record { pieces = piece_at at ∷ [] }

unfoldable pub first_zone_names : ℕ → List ZoneName
first_zone_names zero = []
first_zone_names (suc count) = first_zone_names count ++ zone_name_at count ∷ []

abbrev pub demo_railway : Named
demo_railway = record {
  network = demo_network;
  stops = codes "W" ∷ codes "E" ∷ [];
  blocks = first_block_names block_count;
  zones = first_zone_names block_count;
}

-- ---- the timetable and the trains

abbrev pub demo_settings : Settings
demo_settings = record {
  tick_s = 10;
  setting = 1;
  release = 1;
  horizon = 17280;
  journal_bytes = 268435456;
  speed_loss = false;
}

-- no train is planned
abbrev pub demo_base : Base
demo_base = record { settings = demo_settings; claims = [] }

abbrev pub demo_timetable : Timetable
demo_timetable = timetable_of demo_railway.network demo_base

abbrev pub demo_train : Train
demo_train = record {
  name = codes "F1";
  length_m = 400;
  speed = 20000;
  accel = 200;
  brake = 250;
  allowance = 0;
}
