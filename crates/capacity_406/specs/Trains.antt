-- Trains that stand in a timetable, and their claims.
use Rattle.std.specs.Prelude.{◌≡◌, ◌≢◌, ℕ, ◌<◌, ◌≤◌, ◌⊎◌, ℤ, ◌<ℤ◌, ◌≤ℤ◌, List, [], length}
use Rattle.std.specs.Prelude.{slice_index_or, All, Contains}
use Rattle.rail_types.specs.declared.paths.Claim.{Claim}
use Rattle.rail_types.specs.declared.entries.Owner.{Owner}
use Rattle.rail_types.specs.declared.entries.Owner.TheVariants.{Base}
use Rattle.rail_types.specs.Occupation.{Clash, HasTicks}
use Rattle.rail_types.specs.Limits.{IsNear}
use Rattle.capacity_406.specs.declared.trains.Occupied.{Occupied}

-- the claims of the train of that number, none past the last
abbrev pub claims_of : List Occupied → ℕ → List Claim
claims_of trains train =
    (slice_index_or trains train (record { owner = Base 0; claims = [] })).claims

-- the owner of the train of that number
abbrev pub owner_of : List Occupied → ℕ → Owner
owner_of trains train =
    (slice_index_or trains train (record { owner = Base 0; claims = [] })).owner

-- the train has that claim
abbrev pub Has : List Occupied → ℕ → Claim → Type 0
Has trains train claim = Contains (claims_of trains train) claim

-- begins before the other, or at the same tick on no higher zone
abbrev pub BeginsFirst : Claim → Claim → Type 0
BeginsFirst one other =
    (one.span.from <ℤ other.span.from)
    ⊎ ((one.span.from ≡ other.span.from) × (one.zone ≤ other.zone))

-- the claim of the list that begins first, of the lowest zone at a tie
abbrev pub IsFirstClaim : List Claim → Claim → Type 0
IsFirstClaim claims claim = Contains claims claim × All (BeginsFirst claim) claims

-- the least first begin: a train begins then, and none earlier
pub record IsStart (trains : List Occupied) (start : ℤ) : Type 0 where
  pub begins : (train : ℕ) × (claim : Claim) × Has trains train claim × (claim.span.from ≡ start)
  pub earliest : (train : ℕ) (claim : Claim) → Has trains train claim → start ≤ℤ claim.span.from

-- a claim that has ticks, and both ends near
pub record IsSound (claim : Claim) : Type 0 where
  pub ticks : HasTicks claim.span
  pub from : IsNear claim.span.from
  pub to : IsNear claim.span.to

-- trains that stand beside each other: each has a claim, and no two have claims that clash
pub record AreBeside (trains : List Occupied) : Type 0 where
  pub some : (train : ℕ) → train < length trains → 0 < length (claims_of trains train)
  pub sound : (train : ℕ) (claim : Claim) → Has trains train claim → IsSound claim
  pub apart :
      (i j : ℕ) (a b : Claim) → i ≢ j → Has trains i a → Has trains j b → ¬ Clash a b

-- no two claims of one train clash
abbrev pub AreOwnApart : List Occupied → Type 0
AreOwnApart trains =
    (train : ℕ) (a b : Claim) → Has trains train a → Has trains train b → a ≢ b → ¬ Clash a b
