-- What is wrong with a network: the first flaw by block, then in the order of the kinds.
use Rattle.std.specs.Prelude.{ℕ, Bool, true, false, ◌&&◌, ◌||◌, not, List, [], ◌∷◌, length, drop}
use Rattle.std.specs.Prelude.{find, map, sum, Option, Some, None, nat_le, nat_lt, nat_eq}
use Rattle.std.specs.Prelude.{if◌then◌else◌}
use Rattle.std.specs.List.{list_all, list_any, zip}
use Rattle.rail_types.specs.declared.tracks.Cell.{Cell}
use Rattle.rail_types.specs.declared.tracks.Block.{Block}
use Rattle.rail_types.specs.declared.tracks.Network.{Network}
use Rattle.rail_types.specs.declared.tracks.NetFlaw.{NetFlaw}
use Rattle.rail_types.specs.declared.tracks.NetFlaw.TheVariants.{Range, CellOrder, EmptyBlock}
use Rattle.rail_types.specs.declared.tracks.NetFlaw.TheVariants.{Point, Serves, Limit}
use Rattle.rail_types.specs.declared.limits.TheConstants.{MAX_OBJECTS, MAX_CELLS}
use Rattle.rail_types.specs.declared.limits.TheConstants.{MAX_BLOCK_LENGTH_M, MAX_SIGHT_M}
use Rattle.rail_types.specs.declared.limits.TheConstants.{MAX_SPEED_MM_S}

-- whether a number is below the least or above the most
abbrev pub is_outside : ℕ → ℕ → ℕ → Bool
is_outside least most number = nat_lt number least || nat_lt most number

-- whether a list has no element
abbrev pub is_empty : List Cell → Bool
is_empty [] = true
is_empty (cell ∷ cells) = false

-- each number of a list with the one behind it
abbrev pub neighbours : List ℕ → List (ℕ × ℕ)
neighbours numbers = zip numbers (drop 1 numbers)

-- whether no number is less than the one before it, and none exceeds `most`
abbrev pub ascends : ℕ → List ℕ → Bool
ascends most numbers =
    list_all (λ pair. nat_le pair.0 pair.1) (neighbours numbers)
    && list_all (λ number. nat_le number most) numbers

-- whether each number exceeds the one before it, and all are below `end`
abbrev pub climbs : ℕ → List ℕ → Bool
climbs end numbers =
    list_all (λ pair. nat_lt pair.0 pair.1) (neighbours numbers)
    && list_all (λ number. nat_lt number end) numbers

-- whether a block of the network has a flaw of this kind
abbrev pub has_flaw : Network → Block → NetFlaw → Bool
has_flaw net block Range = list_any (λ cell. nat_le net.zones cell.zone) block.cells
has_flaw net block CellOrder =
    not (ascends block.length_m (map (λ cell. cell.release_m) block.cells))
has_flaw net block EmptyBlock = nat_eq block.length_m 0 || is_empty block.cells
has_flaw net block Point = nat_le net.points block.from_point || nat_le net.points block.to_point
has_flaw net block Serves = not (climbs net.stops block.serves)
has_flaw net block Limit =
    is_outside 1 MAX_BLOCK_LENGTH_M block.length_m || is_outside 1 MAX_SPEED_MM_S block.speed
    || nat_lt MAX_SIGHT_M block.sight_m

-- the kinds of flaws, in the order in which they are told
abbrev pub kinds : List NetFlaw
kinds = Range ∷ CellOrder ∷ EmptyBlock ∷ Point ∷ Serves ∷ Limit ∷ []

-- the first kind of flaw that the block has
abbrev pub flaw_of_block : Network → Block → Option NetFlaw
flaw_of_block net block = find (has_flaw net block) kinds

-- the first answer, or else the second
abbrev pub or_else : Option NetFlaw → Option NetFlaw → Option NetFlaw
or_else None other = other
or_else (Some flaw) other = Some flaw

-- the first flaw of the first block that has one
abbrev pub flaw_of_blocks : Network → List Block → Option NetFlaw
flaw_of_blocks net [] = None
flaw_of_blocks net (block ∷ blocks) =
    or_else (flaw_of_block net block) (flaw_of_blocks net blocks)

-- whether the network as a whole has more of something than its limit
abbrev pub exceeds_limits : Network → Bool
exceeds_limits net =
    nat_lt MAX_OBJECTS net.zones || (nat_lt MAX_OBJECTS net.points
    || (nat_lt MAX_OBJECTS net.stops || (nat_lt MAX_OBJECTS (length net.blocks)
    || nat_lt MAX_CELLS (sum (map (λ block. length block.cells) net.blocks)))))

-- the first flaw of the network, None where it has none
abbrev pub first_flaw : Network → Option NetFlaw
first_flaw net =
    or_else (flaw_of_blocks net net.blocks) (if exceeds_limits net then Some Limit else None)
