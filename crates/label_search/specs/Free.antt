-- When claims are free in a book of occupations.
use Rattle.std.specs.Prelude.{ℤ, List}
use Rattle.rail_types.specs.declared.paths.Claim.{Claim}
use Rattle.occupation_book.specs.Zones.{Zone}
use Rattle.occupation_book.specs.Held.{held}
use Rattle.free_windows.specs.Free.{Fits as FitsAmong}

-- the occupations of each zone
abbrev pub Book : Type 0
Book = List Zone

-- the claims at tick 0 are free in the book when they are moved to a tick
abbrev pub Fits : Book → List Claim → ℤ → Type 0
Fits book pieces tick = FitsAmong (held book) pieces tick
