-- The claims that a book holds, zone by zone, and what a new claim meets among them.
use Rattle.std.specs.Prelude.{◌≡◌, ℕ, ◌+◌, ◌<◌, ◌^◌, ◌⊎◌, ◌≤ℤ◌, Bool, false, not, nat_eq, List, []}
use Rattle.std.specs.Prelude.{length, map, filter, slice_index_or, All, AllPairs, Any}
use Rattle.std.specs.List.{flat_map}
use Rattle.rail_types.specs.declared.paths.Claim.{Claim}
use Rattle.rail_types.specs.declared.entries.Owner.{Owner}
use Rattle.rail_types.specs.declared.entries.Owner.TheVariants.{Base, Entry}
use Rattle.rail_types.specs.Limits.{IsNearSpan}
use Rattle.rail_types.specs.Occupation.{Clash, HasTicks, HeldClaim}
use Rattle.occupation_book.specs.Zones.{Zone}

-- the claims of each zone
abbrev pub claims_by_zone : List Zone → List (List HeldClaim)
claims_by_zone book = map (λ zone. zone.claims) book

-- all held claims, one zone behind the other
abbrev pub held : List Zone → List HeldClaim
held book = flat_map (λ claims. claims) (claims_by_zone book)

-- the zone of that number
abbrev pub zone_at : List Zone → ℕ → Zone
zone_at book number = slice_index_or book number (record { claims = []; spare = 0 })

-- no held claim clashes with this one
abbrev pub IsFree : List HeldClaim → Claim → Type 0
IsFree claims claim = All (λ other. ¬ Clash other.0 claim) claims

-- the ticks of all claims are near
abbrev pub AreNear : List HeldClaim → Type 0
AreNear claims = All (λ one. IsNearSpan one.0.span) claims

-- claims of one zone: each has ticks, which are near, and ends by the tick
-- at which any behind it begins
pub record AreInOrder (number : ℕ) (claims : List HeldClaim) : Type 0 where
  pub on_zone : All (λ one. one.0.zone ≡ number) claims
  pub ticks : All (λ one. HasTicks one.0.span) claims
  pub near : AreNear claims
  pub sorted : AllPairs (λ one later. one.0.span.to ≤ℤ later.0.span.from) claims

-- the zones are no more than their numbers can tell, and the claims of each are in order
pub record IsBook (book : List Zone) : Type 0 where
  pub counted : length book < 2 ^ 32
  pub in_order : (number : ℕ) → number < length book
      → AreInOrder number (zone_at book number).claims

-- one claim is on a lower zone, or on the same zone and ends by the tick at which the other begins
abbrev pub HasEndedBefore : HeldClaim → HeldClaim → Type 0
HasEndedBefore one later =
    (one.0.zone < later.0.zone)
    ⊎ ((one.0.zone ≡ later.0.zone) × (one.0.span.to ≤ℤ later.0.span.from))

-- whether both are the same owner
abbrev pub is_same_owner : Owner → Owner → Bool
is_same_owner (Base a) (Base b) = nat_eq a b
is_same_owner (Entry a) (Entry b) = nat_eq a b
is_same_owner (Base a) (Entry b) = false
is_same_owner (Entry a) (Base b) = false

-- the claims that the owner holds
abbrev pub claims_of : Owner → List HeldClaim → List HeldClaim
claims_of owner claims = filter (λ one. is_same_owner one.1 owner) claims

-- the claims that others hold
abbrev pub claims_of_others : Owner → List HeldClaim → List HeldClaim
claims_of_others owner claims = filter (λ one. not (is_same_owner one.1 owner)) claims

-- each claim that the owner holds is on the zone of one of these
abbrev pub AreOnZonesOf : Owner → List HeldClaim → List Claim → Type 0
AreOnZonesOf owner held claims =
    All (λ one. one.1 ≡ owner → Any (λ claim. claim.zone ≡ one.0.zone) claims) held

-- the owner's claims are out of a zone, and there is as much more room
pub record IsWithout (owner : Owner) (old new : Zone) : Type 0 where
  pub claims : new.claims ≡ claims_of_others owner old.claims
  pub room : new.spare ≡ old.spare + length (claims_of owner old.claims)
