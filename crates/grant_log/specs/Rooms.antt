-- Claims that are to be held, and the room for them.
use Rattle.std.specs.Prelude.{ℕ, ◌<◌, ◌≤◌, List, length, slice_index_or, sum_by, nat_eq}
use Rattle.std.specs.Prelude.{if◌then◌else◌}
use Rattle.rail_types.specs.Limits.{IsNearSpan}
use Rattle.rail_types.specs.Occupation.{HasTicks, HeldClaim}
use Rattle.occupation_book.specs.Zones.{Zone}
use Rattle.occupation_book.specs.Held.{zone_at}

-- one for a claim on this zone, and none for another
abbrev pub if_on : ℕ → HeldClaim → ℕ
if_on number one = if nat_eq one.0.zone number then 1 else 0

-- how many of the claims are on a zone
abbrev pub how_many_on : ℕ → List HeldClaim → ℕ
how_many_on number claims = sum_by (if_on number) claims

-- each zone has room for the claims that are on it
abbrev pub HasRoomFor : List Zone → List HeldClaim → Type 0
HasRoomFor book claims = (number : ℕ) → how_many_on number claims ≤ (zone_at book number).spare

-- inside: how often a zone stands in a list
abbrev pub count_of : ℕ → List ℕ → ℕ
count_of number zones = sum_by (λ zone. if nat_eq zone number then 1 else 0) zones

-- inside: none stands before a lesser one
abbrev pub AreAscending : List ℕ → Type 0
AreAscending zones =
    (i j d : ℕ) → i ≤ j → j < length zones → slice_index_or zones i d ≤ slice_index_or zones j d

-- a claim that a book of so many zones may hold: it has ticks, which are near
pub record MayBeHeld (zones : ℕ) (one : HeldClaim) : Type 0 where
  pub zone : one.0.zone < zones
  pub ticks : HasTicks one.0.span
  pub near : IsNearSpan one.0.span
