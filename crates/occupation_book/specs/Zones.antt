-- A zone as contracts see it.
use Rattle.std.specs.Prelude.{ℕ, List}
use Rattle.rail_types.specs.Occupation.{HeldClaim}

-- the claims on a zone, and for how many more there is room
pub record Zone : Type 0 where
  pub claims : List HeldClaim
  pub spare : ℕ
