-- Passages of zones.
use Rattle.std.specs.Prelude.{◌+◌, List, map}
use Rattle.rail_types.specs.declared.tracks.Cell.{Cell}
use Rattle.rail_types.specs.declared.trains.Train.{Train}
use Rattle.blocking_time.specs.declared.passages.Passage.{Passage}

-- the passage of a cell by a train whose head is at the block's beginning: it is cleared where the
-- train's end has passed its release point
abbrev pub passage_of : Train → Cell → Passage
passage_of train cell = record { zone = cell.zone; metres = cell.release_m + train.length_m }

abbrev pub passages_of : Train → List Cell → List Passage
passages_of train cells = map (passage_of train) cells
