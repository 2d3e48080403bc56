-- The chain of trains that keeps the last start from being earlier.
use Rattle.std.specs.Prelude.{◌≡◌, ◌≢◌, ℕ, ℤ, List, [], ◌∷◌}
use Rattle.rail_types.specs.declared.paths.Claim.{Claim}
use Rattle.capacity_406.specs.declared.trains.Occupied.{Occupied}
use Rattle.capacity_406.specs.declared.trains.Link.{Link}
use Rattle.capacity_406.specs.Trains.{Has, IsStart, IsFirstClaim, claims_of}
use Rattle.capacity_406.specs.Compression.{after, IsLastStart}

-- the link names the zone of that claim of its train, and the tick at which it begins after the
-- shifts
pub record Names (trains : List Occupied) (shifts : List ℤ) (link : Link) (claim : Claim)
    : Type 0 where
  pub has : Has trains link.train claim
  pub zone : claim.zone ≡ link.zone
  pub at : (after shifts link.train claim).from ≡ link.at

-- the first claim of a train that begins at the least first begin
abbrev pub IsFirstLink : List Occupied → List ℤ → Link → Type 0
IsFirstLink trains shifts link =
    (claim : Claim) × Names trains shifts link claim ×
    IsFirstClaim (claims_of trains link.train) claim × IsStart trains link.at

-- a claim of another train, which begins where one of the train before, on the same zone, ends
pub record IsNextLink (trains : List Occupied) (shifts : List ℤ) (before : ℕ) (link : Link)
    : Type 0 where
  pub two : before ≢ link.train
  pub claim : Claim
  pub names : Names trains shifts link claim
  pub earlier : Claim
  pub has : Has trains before earlier
  pub zone : earlier.zone ≡ link.zone
  pub ends : (after shifts before earlier).to ≡ link.at

-- links that lead on from a train, each following the one before, up to a train with the last start
abbrev pub LeadOn : List Occupied → List ℤ → ℕ → List Link → Type 0
LeadOn trains shifts train [] = (last : ℤ) × IsLastStart trains shifts train last
LeadOn trains shifts train (next ∷ rest) =
    IsNextLink trains shifts train next × LeadOn trains shifts next.train rest

-- a chain from a train at the least first begin to one with the last start; none where there is no
-- train
abbrev pub IsChain : List Occupied → List ℤ → List Link → Type 0
IsChain trains shifts [] = trains ≡ []
IsChain trains shifts (first ∷ rest) =
    IsFirstLink trains shifts first × LeadOn trains shifts first.train rest
