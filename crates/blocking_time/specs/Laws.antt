-- Laws of broken rules, stairways and joined claims.
use Rattle.std.specs.Prelude.{◌≡◌, ◌↔◌, Some, None, List, All}
use Rattle.rail_types.specs.declared.tracks.Network.{Network}
use Rattle.rail_types.specs.declared.entries.Settings.{Settings}
use Rattle.rail_types.specs.declared.entries.Wanted.{Wanted}
use Rattle.rail_types.specs.declared.paths.Claim.{Claim}
use Rattle.rail_types.specs.declared.paths.Path.{Path}
use Rattle.rail_types.specs.Limits.{IsNearSpan}
use Rattle.rail_types.specs.Occupation.{AreJoined, Fits, HasTicks}
use Rattle.blocking_time.specs.declared.rules.Broken.{Broken as Told}
use Rattle.blocking_time.specs.Broken.{broken}
use Rattle.blocking_time.specs.Firsts.{IsFirstBroken, Keeps}
use Rattle.blocking_time.specs.Joined.{CoverTheSame, blocked, joined_claims}
use Rattle.blocking_time.specs.Legs.{KeepsByLegs, claims_by_legs}
use Rattle.blocking_time.specs.Paths.{IsPathOf}
use Rattle.blocking_time.specs.Rules.{KeepsRunRules}
use Rattle.blocking_time.specs.Stairway.{claims_of_path}

-- the run and rule that are told are the first that is broken, and there is one such at most
pub record TheFirstIsTold : Type 0 where
  pub told : (net : Network) (settings : Settings) (path : Path) (wanted : Wanted) (at : Told)
      → (broken net settings path wanted ≡ Some at) ↔ IsFirstBroken net settings path wanted at
  pub keeps : (net : Network) (settings : Settings) (path : Path) (wanted : Wanted)
      → (broken net settings path wanted ≡ None) ↔ Keeps net settings path wanted

-- joined claims are in order, and cover the same ticks; no other claims do
pub record JoinedClaimsAreOne : Type 0 where
  pub joined : (claims : List Claim) → AreJoined (joined_claims claims)
  pub same : (claims : List Claim) → CoverTheSame (joined_claims claims) claims
  pub alone : (claims made : List Claim)
      → AreJoined made → CoverTheSame made claims → made ≡ joined_claims claims

-- of claims that all have ticks: joined claims clash with none of these exactly where those that
-- they were joined from do not
abbrev pub JoinedFitAlike : Type 0
JoinedFitAlike =
    (claims live : List Claim) → All (λ claim. HasTicks claim.span) claims
    → All (λ claim. HasTicks claim.span) live → Fits (joined_claims claims) live ↔ Fits claims live

-- each zone is blocked for a tick at least, for a path that keeps the rules of runs
abbrev pub StairwaysHaveTicks : Type 0
StairwaysHaveTicks =
    (net : Network) (settings : Settings) (path : Path) → KeepsRunRules net settings path
    → All (λ claim. HasTicks claim.span) (claims_of_path net settings path)

-- the claims of a path that keeps the rules of runs are near
abbrev pub StairwaysAreNear : Type 0
StairwaysAreNear =
    (net : Network) (settings : Settings) (path : Path) → IsPathOf net settings path
    → KeepsRunRules net settings path
    → All (λ claim. IsNearSpan claim.span) (blocked net settings path)

-- inside: a path by the numbers of its runs, and leg by leg
pub record LegsAreTheRuns : Type 0 where
  pub claims : (net : Network) (settings : Settings) (path : Path)
      → claims_of_path net settings path ≡ claims_by_legs net settings path
  pub keeps : (net : Network) (settings : Settings) (path : Path)
      → KeepsRunRules net settings path ↔ KeepsByLegs net settings path
