-- *inside*: what the private calls of a selection hand to one another.
use Rattle.std.specs.Prelude.{◌≡◌, ◌≢◌, ℕ, ◌⊎◌, ◌<ℤ◌, Bool, ◌&&◌, nat_le, List, All, AllPairs}
use Rattle.std.specs.Prelude.{Contains, ◌↔◌}
use Rattle.rail_types.specs.declared.entries.Entry.{Entry as entry_type}
use Rattle.rail_types.specs.declared.entries.Owner.{Owner}
use Rattle.rail_types.specs.declared.entries.Owner.TheVariants.{Base, Entry}
use Rattle.rail_types.specs.declared.paths.Claim.{Claim}
use Rattle.rail_types.specs.Occupation.{HeldClaim}
use Rattle.capacity_406.specs.declared.trains.Occupied.{Occupied}
use Rattle.capacity_406.specs.declared.trains.Stretch.{Stretch}
use Rattle.capacity_406.specs.Selecting.{BeginsWithin, OwnerBefore}
use Rattle.capacity_406.specs.Trains.{IsFirstClaim}
use Rattle.capacity_406.specs.declared.stretch_trains.groups.Standing.{Standing}
use Rattle.capacity_406.specs.StretchTrains.{is_train}

-- whether a claim is on a zone of the stretch
abbrev pub is_on : Stretch → Claim → Bool
is_on stretch claim = nat_le stretch.first claim.zone && nat_le claim.zone stretch.last

-- whether a held claim is a train's, on a zone of the stretch
abbrev pub is_wanted : List entry_type → Stretch → HeldClaim → Bool
is_wanted entries stretch one = is_on stretch one.0 && is_train entries one.1

-- the owner holds it
abbrev pub IsOf : Owner → HeldClaim → Type 0
IsOf owner one = one.1 ≡ owner

-- the one's owner comes before that of the other, or is the same
abbrev pub OwnerNoLater : HeldClaim → HeldClaim → Type 0
OwnerNoLater one other = OwnerBefore one.1 other.1 ⊎ (one.1 ≡ other.1)

-- numbers that are in the order of owners
abbrev pub key_of : Owner → ℕ × ℕ
key_of (Base train) = (0, train)
key_of (Entry at) = (1, at)

-- one of the claims begins in the window
abbrev pub Runs : Stretch → List Claim → Type 0
Runs stretch claims = (claim : Claim) × Contains claims claim × BeginsWithin stretch claim

-- the train begins before the other, or at the same tick and its owner is no later
abbrev pub StandsNoLater : Standing → Standing → Type 0
StandsNoLater one other =
    (one.first.span.from <ℤ other.first.span.from)
    ⊎ ((one.first.span.from ≡ other.first.span.from)
    × (OwnerBefore one.owner other.owner ⊎ (one.owner ≡ other.owner)))

-- the train has just the claims that its owner has here
abbrev pub HasAllOf : List HeldClaim → Standing → Type 0
HasAllOf taken one = (claim : Claim) → Contains one.claims claim ↔ Contains taken (claim, one.owner)

-- the trains among these claims that have one which begins in the window, each once
pub record AreGrouped (stretch : Stretch) (taken : List HeldClaim) (standing : List Standing)
    : Type 0 where
  pub claims : All (HasAllOf taken) standing
  pub first : All (λ one. IsFirstClaim one.claims one.first) standing
  pub trains_run : All (λ one. Runs stretch one.claims) standing
  pub all : (claim : Claim) (owner : Owner) → Contains taken (claim, owner)
      → BeginsWithin stretch claim → (one : Standing) × Contains standing one × (one.owner ≡ owner)
  pub once : AllPairs (λ one other. one.owner ≢ other.owner) standing

-- a train with its claims
abbrev pub train_of : Standing → Occupied
train_of one = record { owner = one.owner; claims = one.claims }
