-- Whether a request could be granted.
use Rattle.std.specs.Prelude.{◌≡◌, ◌<◌, ◌≤◌, None, List, length, All}
use Rattle.rail_types.specs.declared.tracks.Network.{Network}
use Rattle.rail_types.specs.declared.trains.Request.{Request}
use Rattle.rail_types.specs.declared.entries.Settings.{Settings}
use Rattle.rail_types.specs.declared.entries.Wanted.TheVariants.{Asked}
use Rattle.rail_types.specs.declared.paths.Claim.{Claim}
use Rattle.rail_types.specs.declared.paths.Path.{Path}
use Rattle.rail_types.specs.Occupation.{Fits}
use Rattle.blocking_time.specs.Broken.{broken}
use Rattle.blocking_time.specs.Stairway.{claims_of_path}

-- a path through blocks of the network that keeps the request, and whose
-- stairway clashes with no live claim
pub record CanBeGranted
    (net : Network) (settings : Settings) (live : List Claim) (request : Request)
    (path : Path) : Type 0 where
  pub some : 1 ≤ length path.runs
  pub blocks : All (λ run. run.block < length net.blocks) path.runs
  pub keeps : broken net settings path (Asked request) ≡ None
  pub fits : Fits (claims_of_path net settings path) live

-- some path can be granted: any sequence of blocks, at any ticks
abbrev pub IsPossible : Network → Settings → List Claim → Request → Type 0
IsPossible net settings live request =
    (path : Path) × CanBeGranted net settings live request path
