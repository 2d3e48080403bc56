-- What never changes while a history grows.
use Rattle.std.specs.Prelude.{◌≡◌, ◌<◌, None, List, map, All, AllPairs}
use Rattle.rail_types.specs.declared.tracks.Network.{Network}
use Rattle.rail_types.specs.declared.entries.Settings.{Settings}
use Rattle.rail_types.specs.declared.entries.Owner.TheVariants.{Base as of_train}
use Rattle.rail_types.specs.declared.bases.Base.{Base}
use Rattle.rail_types.specs.declared.bases.BaseClaim.{BaseClaim}
use Rattle.rail_types.specs.Flaws.{first_flaw}
use Rattle.rail_types.specs.Limits.{IsClaimWithinLimits, IsSettingsWithinLimits}
use Rattle.rail_types.specs.Occupation.{Clash, HeldClaim}

-- the network, the settings, and the claims of the planned trains
pub record Timetable : Type 0 where
  pub net : Network
  pub settings : Settings
  pub base : List BaseClaim

-- the timetable of a network and a base timetable
abbrev pub timetable_of : Network → Base → Timetable
timetable_of net base = record { net = net; settings = base.settings; base = base.claims }

-- the claims of the planned trains, each with its train as the owner
abbrev pub base_claims : Timetable → List HeldClaim
base_claims timetable = map (λ one. (one.claim, of_train one.train)) timetable.base

-- a claim that a planned train may have on a network
pub record IsBaseClaimOf (net : Network) (one : BaseClaim) : Type 0 where
  pub zone : one.claim.zone < net.zones
  pub within : IsClaimWithinLimits one.claim

-- a network without flaws, settings within their limits, and base claims on
-- its zones of which no two clash
pub record IsTimetable (timetable : Timetable) : Type 0 where
  pub sound : first_flaw timetable.net ≡ None
  pub within : IsSettingsWithinLimits timetable.settings
  pub claims : All (IsBaseClaimOf timetable.net) timetable.base
  pub apart : AllPairs (λ one other. ¬ Clash one.claim other.claim) timetable.base
