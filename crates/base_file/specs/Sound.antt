-- What a base that was read is fit for.
use Rattle.std.specs.Prelude.{ℕ, ◌<◌, ◌≤◌, List, length, All, AllPairs}
use Rattle.rail_types.specs.declared.bases.Base.{Base}
use Rattle.rail_types.specs.declared.bases.BaseClaim.{BaseClaim}
use Rattle.rail_types.specs.declared.limits.TheConstants.{MAX_BASE_CLAIMS}
use Rattle.rail_types.specs.declared.paths.Claim.{Claim}
use Rattle.rail_types.specs.Limits.{IsClaimWithinLimits, IsSettingsWithinLimits}
use Rattle.base_file.specs.declared.trains.Planned.{Planned}
use Rattle.base_file.specs.Overlaps.{Apart, StandsBefore}

-- a claim on one of so many zones, at ticks that a file may name
pub record IsClaimOn (zones : ℕ) (claim : Claim) : Type 0 where
  pub zone : claim.zone < zones
  pub within : IsClaimWithinLimits claim

-- Settings within their limits, and no more claims than a base file may have, on so many zones: by
-- train, the claims of each train joined, and no two of any trains clash.
pub record IsBaseOn (zones : ℕ) (base : Base) : Type 0 where
  pub settings : IsSettingsWithinLimits base.settings
  pub count : length base.claims ≤ MAX_BASE_CLAIMS
  pub claims : All (λ one. IsClaimOn zones one.claim) base.claims
  pub joined : AllPairs StandsBefore base.claims
  pub apart : AllPairs Apart base.claims

-- inside: the claims of the trains that were read
pub record ArePlanned (zones : ℕ) (planned : Planned) : Type 0 where
  pub trains : All (λ one. one.train < planned.trains) planned.claims
  pub count : length planned.claims ≤ planned.elements
  pub few : planned.elements ≤ MAX_BASE_CLAIMS
  pub claims : All (λ one. IsClaimOn zones one.claim) planned.claims
  pub joined : AllPairs StandsBefore planned.claims

-- inside: claims of all trains, joined train by train, before any two are searched that clash
pub record AreClaimsOn (zones : ℕ) (list : List BaseClaim) : Type 0 where
  pub count : length list ≤ MAX_BASE_CLAIMS
  pub claims : All (λ one. IsClaimOn zones one.claim) list
  pub joined : AllPairs StandsBefore list
