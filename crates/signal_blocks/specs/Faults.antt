-- What makes the blocks of a railway no network, in the order in which it is told.
use Rattle.std.specs.Prelude.{ℕ, ℤ, pos, ◌+◌, ◌-◌, ◌^◌, Bool, false, List, [], ◌∷◌, Option, Some}
use Rattle.std.specs.Prelude.{None, option_map, nat_eq, nat_lt, if◌then◌else◌}
use Rattle.std.specs.List.{count_by, sum_by}
use Rattle.rail_types.specs.declared.limits.TheConstants.{MAX_OBJECTS, MAX_CELLS}
use Rattle.rail_types.specs.declared.limits.TheConstants.{MAX_BLOCK_LENGTH_M}
use Rattle.signal_blocks.specs.Cuts.{is_some, metres_at, cut_places, block_count}
use Rattle.signal_blocks.specs.declared.block_cuts.faults.Fault.{Fault}
use Rattle.signal_blocks.specs.declared.block_cuts.faults.Fault.TheVariants.{EmptyBlock, Limit}
use Rattle.signal_blocks.specs.declared.block_cuts.faults.Railway.{Railway}
use Rattle.signal_blocks.specs.declared.block_cuts.faults.What.{What}
use Rattle.signal_blocks.specs.declared.block_cuts.faults.What.TheVariants.{Zones, Points, Blocks}
use Rattle.signal_blocks.specs.declared.block_cuts.faults.What.TheVariants.{Cells}
use Rattle.signal_blocks.specs.declared.block_cuts.faults.What.TheVariants.{BlockLength}
use Rattle.route_walk.specs.declared.walks.Passed.{Passed}
use Rattle.route_walk.specs.declared.walks.Walk.{Walk}

-- whether the cut before lies at this metre
abbrev pub lies_at : Option ℕ → ℕ → Bool
lies_at None metres = false
lies_at (Some other) metres = nat_eq metres other

-- the metres from the cut before
abbrev pub length_from : Option ℕ → ℕ → ℕ
length_from None metres = 0
length_from (Some other) metres = metres - other

-- the metre of the first cut that lies where the one before lies
abbrev pub empty_behind : List Passed → Option ℕ → List ℕ → Option ℕ
empty_behind passed before [] = None
empty_behind passed before (cut ∷ cuts) =
    if lies_at before (metres_at passed cut) then Some (metres_at passed cut)
    else empty_behind passed (Some (metres_at passed cut)) cuts

-- the first length between neighbouring cuts that is over the limit
abbrev pub long_behind : List Passed → Option ℕ → List ℕ → Option ℕ
long_behind passed before [] = None
long_behind passed before (cut ∷ cuts) =
    if nat_lt MAX_BLOCK_LENGTH_M (length_from before (metres_at passed cut))
    then Some (length_from before (metres_at passed cut))
    else long_behind passed (Some (metres_at passed cut)) cuts

-- the metre of the walk's first block without length
abbrev pub empty_in : List (Option ℕ) → Walk → Option ℕ
empty_in sights walk = empty_behind walk.passed None (cut_places sights walk.passed)

-- the length of the walk's first block that is too long
abbrev pub long_in : List (Option ℕ) → Walk → Option ℕ
long_in sights walk = long_behind walk.passed None (cut_places sights walk.passed)

-- the first fault, or else the second
abbrev pub or_fault : Option Fault → Option Fault → Option Fault
or_fault None other = other
or_fault (Some fault) other = Some fault

-- the first block without length, by route from this number on, then by metre
abbrev pub empty_fault : List (Option ℕ) → ℕ → List Walk → Option Fault
empty_fault sights route [] = None
empty_fault sights route (walk ∷ walks) =
    or_fault (option_map (λ at. EmptyBlock route at) (empty_in sights walk))
    (empty_fault sights (route + 1) walks)

-- a count as it is told: 0 where it is no whole number of 64 bits
abbrev pub told : ℕ → ℤ
told count = if nat_lt count (2 ^ 63) then pos count else pos 0

-- the first block that is too long
abbrev pub long_fault : List (Option ℕ) → List Walk → Option Fault
long_fault sights [] = None
long_fault sights (walk ∷ walks) =
    or_fault (option_map (λ count. Limit BlockLength (told count)) (long_in sights walk))
    (long_fault sights walks)

-- more of something than its limit
abbrev pub limit_over : What → ℕ → ℕ → Option Fault
limit_over what most count = if nat_lt most count then Some (Limit what (told count)) else None

-- how many blocks the walks have
abbrev pub count_blocks : List (Option ℕ) → List Walk → ℕ
count_blocks sights walks = sum_by (block_count sights) walks

-- how many cells the walk's blocks have: one for each passage of a zone
abbrev pub cell_count : Walk → ℕ
cell_count walk = count_by is_some walk.zones

abbrev pub count_cells : List Walk → ℕ
count_cells walks = sum_by cell_count walks

-- more zones, points, blocks or cells than are allowed
abbrev pub count_fault : Railway → Option Fault
count_fault railway =
    or_fault (limit_over Zones MAX_OBJECTS railway.zones)
    (or_fault (limit_over Points MAX_OBJECTS railway.points)
    (or_fault (limit_over Blocks MAX_OBJECTS (count_blocks railway.lines.sights railway.walks))
    (limit_over Cells MAX_CELLS (count_cells railway.walks))))

-- the first fault of a railway's blocks
abbrev pub railway_fault : Railway → Option Fault
railway_fault railway =
    or_fault (empty_fault railway.lines.sights 0 railway.walks)
    (or_fault (count_fault railway) (long_fault railway.lines.sights railway.walks))
