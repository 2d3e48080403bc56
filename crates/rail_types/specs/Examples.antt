-- Networks that laws speak of.
use Rattle.std.specs.Prelude.{ℕ, [], ◌∷◌}
use Rattle.rail_types.specs.declared.tracks.Block.{Block}
use Rattle.rail_types.specs.declared.tracks.Network.{Network}

-- block i of that line, with zone i and operational point i, its sight distance, and the
-- points at which it begins and ends
abbrev pub line3_block : ℕ → ℕ → ℕ → ℕ → Block
line3_block i sight_m from_point to_point = record {
  length_m = 2000;
  speed = 200000;
  sight_m = sight_m;
  cells = record { zone = i; release_m = 2000 } ∷ [];
  from_point = from_point;
  to_point = to_point;
  serves = i ∷ [];
}

-- three blocks of 2000 m one behind the other, each with one zone and one operational point; two
-- detectors between them and a buffer stop at each end, so eight points
abbrev pub line3 : Network
line3 = record {
  zones = 3;
  points = 8;
  stops = 3;
  blocks = line3_block 0 0 4 0 ∷ line3_block 1 400 0 2 ∷ line3_block 2 400 2 6 ∷ [];
}

-- a network of three zones, eight points and three operational points, whose one block is this one
abbrev pub alone : Block → Network
alone block = record { zones = 3; points = 8; stops = 3; blocks = block ∷ [] }

-- its block is in order but for what each name says
abbrev pub zone_out_of_range : Network
zone_out_of_range =
    alone (record (line3_block 0 0 4 0) { cells = record { zone = 3; release_m = 2000 } ∷ [] })

abbrev pub release_past_the_end : Network
release_past_the_end =
    alone (record (line3_block 0 0 4 0) { cells = record { zone = 0; release_m = 2001 } ∷ [] })

abbrev pub releases_fall : Network
releases_fall =
    alone (record (line3_block 0 0 4 0) {
      cells = record { zone = 0; release_m = 900 } ∷ record { zone = 1; release_m = 800 } ∷ [];
    })

abbrev pub no_cell : Network
no_cell = alone (record (line3_block 0 0 4 0) { cells = [] })

abbrev pub no_length : Network
no_length =
    alone (record (line3_block 0 0 4 0) {
      length_m = 0;
      cells = record { zone = 0; release_m = 0 } ∷ [];
    })

abbrev pub point_out_of_range : Network
point_out_of_range = alone (line3_block 0 0 4 8)

abbrev pub serves_out_of_range : Network
serves_out_of_range =
    alone (record (line3_block 0 0 4 0) { serves = 3 ∷ [] })

abbrev pub serves_unsorted : Network
serves_unsorted = alone (record (line3_block 0 0 4 0) { serves = 1 ∷ 1 ∷ [] })

abbrev pub too_fast : Network
too_fast = alone (record (line3_block 0 0 4 0) { speed = 200001 })

-- a block that is too fast, and behind it one whose zone is out of range
abbrev pub fast_then_out_of_range : Network
fast_then_out_of_range = record {
  zones = 3;
  points = 8;
  stops = 3;
  blocks =
      record (line3_block 0 0 4 0) { speed = 200001 }
      ∷ record (line3_block 1 400 0 2) { cells = record { zone = 3; release_m = 2000 } ∷ [] } ∷ [];
}

-- a block that is too fast and whose zone is out of range
abbrev pub fast_and_out_of_range : Network
fast_and_out_of_range =
    alone (record (line3_block 0 0 4 0) {
      speed = 200001;
      cells = record { zone = 3; release_m = 2000 } ∷ [];
    })

-- more zones than are allowed, and a block without a cell
abbrev pub many_and_no_cell : Network
many_and_no_cell = record no_cell { zones = 65537 }

-- a network without blocks
abbrev pub bare : ℕ → Network
bare zones = record { zones = zones; points = 0; stops = 0; blocks = [] }
