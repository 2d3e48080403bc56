-- The last entry that stands in the way of new claims.
use Rattle.std.specs.Prelude.{ℕ, ◌<◌, ◌≤◌, List, Contains, Option, Some, None}
use Rattle.rail_types.specs.declared.paths.Claim.{Claim}
use Rattle.rail_types.specs.declared.entries.Owner.TheVariants.{Entry as of_entry}
use Rattle.rail_types.specs.FirstClash.{ClashesWith}
use Rattle.rail_types.specs.Occupation.{HeldClaim}

-- the entry at a position holds a claim that clashes with one of these
abbrev pub EntryClashes : List HeldClaim → List Claim → ℕ → Type 0
EntryClashes held claims at =
    (claim : Claim) × Contains held (claim, of_entry at) × ClashesWith claims (claim, of_entry at)

-- it is the last such entry, and stands at this position or behind it
pub record IsLastClash (held : List HeldClaim) (claims : List Claim) (from at : ℕ) : Type 0 where
  pub behind : from ≤ at
  pub clashes : EntryClashes held claims at
  pub last : (later : ℕ) → at < later → ¬ EntryClashes held claims later

-- there is no such entry from this position on
abbrev pub NoneClashesFrom : List HeldClaim → List Claim → ℕ → Type 0
NoneClashesFrom held claims from = (at : ℕ) → from ≤ at → ¬ EntryClashes held claims at

-- inside: the greatest number that has P, or that there is none
abbrev pub IsGreatest : (ℕ → Type 0) → Option ℕ → Type 0
IsGreatest P None = (at : ℕ) → ¬ P at
IsGreatest P (Some at) = P at × ((later : ℕ) → at < later → ¬ P later)

-- inside: an entry from this position on holds a claim that clashes with one of these
abbrev pub EntryClashesFrom : List HeldClaim → List Claim → ℕ → ℕ → Type 0
EntryClashesFrom held claims from at = (from ≤ at) × EntryClashes held claims at
