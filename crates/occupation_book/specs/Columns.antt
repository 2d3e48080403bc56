-- Inside: the claims of a zone as it keeps them, their ends in one column and the rest of them in
-- another.
use Rattle.std.specs.Prelude.{ℕ, ◌-◌, ◌^◌, min, ℤ, ◌-ℤ◌, int_lt, if◌then◌else◌, List, [], ◌∷◌}
use Rattle.rail_types.specs.declared.entries.Owner.{Owner}
use Rattle.rail_types.specs.declared.entries.Owner.TheVariants.{Base, Entry}
use Rattle.rail_types.specs.declared.limits.TheConstants.{FAR_TICK}
use Rattle.rail_types.specs.Occupation.{HeldClaim}
use Rattle.occupation_book.specs.declared.zones.Rest.{Rest}
use Rattle.occupation_book.specs.declared.zones.TheConstants.{BASE_LATER}

-- the tick at which the claim of a row begins; that of a train of the base is written down later
abbrev pub begin_of : Rest → ℤ
begin_of rest =
    if int_lt FAR_TICK rest.written then rest.written -ℤ BASE_LATER else rest.written

-- who holds the claim of a row
abbrev pub owner_of : Rest → Owner
owner_of rest =
    if int_lt FAR_TICK rest.written then Base (min rest.holder (2 ^ 32 - 1)) else Entry rest.holder

-- a claim on the zone of a number with its owner, by what both columns have of it
abbrev pub row_of : ℕ → ℤ → Rest → HeldClaim
row_of number end rest = (
  record { zone = number; span = record { from = begin_of rest; to = end } },
  owner_of rest,
)

-- the claims on that zone, by both columns
abbrev pub rows_of : ℕ → List ℤ → List Rest → List HeldClaim
rows_of number [] rests = []
rows_of number (end ∷ ends) [] = []
rows_of number (end ∷ ends) (rest ∷ rests) = row_of number end rest ∷ rows_of number ends rests
