-- The cells of a block.
use Rattle.std.specs.Prelude.{ℕ, ◌-◌, ◌+◌, min, List, Option, Some, None, option_map}
use Rattle.std.specs.Prelude.{slice_index_or, nat_le}
use Rattle.std.specs.List.{find, filter_map, range_with_len}
use Rattle.rail_types.specs.declared.tracks.Cell.{Cell}
use Rattle.signal_blocks.specs.Cuts.{metres_at}
use Rattle.route_walk.specs.declared.walks.Walk.{Walk}

-- the number, or else the other
abbrev pub or_number : ℕ → Option ℕ → ℕ
or_number other None = other
or_number other (Some number) = number

-- the first release detector at or after so many metres
abbrev pub from_end : List ℕ → ℕ → Option ℕ
from_end releases end = find (λ metres. nat_le end metres) releases

-- the first release detector at or after the cell's end, inside the block, else the block's end
abbrev pub release_of : List ℕ → ℕ → ℕ → ℕ
release_of releases end last = min last (or_number last (from_end releases end))

-- the metres from the block's beginning to the release point of the cell that begins at a place
abbrev pub release_from : Walk → ℕ → ℕ → ℕ → ℕ
release_from walk from to place =
    release_of walk.releases (metres_at walk.passed (place + 1)) (metres_at walk.passed to)
    - metres_at walk.passed from

-- the cell between a place and the next, None where no zone is passed
abbrev pub cell_at : Walk → ℕ → ℕ → ℕ → Option Cell
cell_at walk from to place =
    option_map (λ zone. record { zone = zone; release_m = release_from walk from to place })
    (slice_index_or walk.zones place None)

-- the cells of the block between two places: one for each passage of a zone, in order
abbrev pub cells_between : Walk → ℕ → ℕ → List Cell
cells_between walk from to = filter_map (cell_at walk from to) (range_with_len from (to - from))
