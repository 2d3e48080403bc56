-- What callers may rely on in a line that was read.
use Rattle.std.specs.Prelude.{◌<◌, ◌≤◌, All, IfSome, length}
use Rattle.rail_types.specs.Named.{IsNamed}
use Rattle.rail_types.specs.declared.limits.TheConstants.{MAX_NUMBER, MAX_PINNED_RUNS}
use Rattle.rail_types.specs.declared.tracks.Network.{Network}
use Rattle.rail_types.specs.declared.trains.Request.{Request}
use Rattle.rail_types.specs.Limits.{IsHoldWithinLimits, IsPathWithinLimits, IsRequestWithinLimits}
use Rattle.rail_types.specs.Limits.{IsTrainWithinLimits}
use Rattle.client_lines.specs.declared.asks.Ask.{Ask}
use Rattle.client_lines.specs.declared.asks.Ask.TheVariants as asks
use Rattle.client_lines.specs.declared.asks.Line.{Line}
use Rattle.client_lines.specs.Names.{Names}

-- a network whose parts have names, and trains within their limits
pub record AreSound (known : Names) : Type 0 where
  pub named : IsNamed known.railway
  pub trains : All IsTrainWithinLimits known.trains

-- the operational points of a request are those of the network
pub record HasPoints (net : Network) (request : Request) : Type 0 where
  pub origin : request.origin < net.stops
  pub destination : request.destination < net.stops
  pub stops : All (λ stop. stop.stop < net.stops) request.stops

-- the numbers of what is asked for are within their limits, and it speaks of what the network has
abbrev pub IsAskWithin : Network → Ask → Type 0
IsAskWithin net (asks.Hold number claims reason) =
    (number ≤ MAX_NUMBER) × IsHoldWithinLimits claims reason
    × All (λ claim. claim.zone < net.zones) claims
IsAskWithin net (asks.Pin number path) =
    (number ≤ MAX_NUMBER) × IsPathWithinLimits MAX_PINNED_RUNS path
    × All (λ run. run.block < length net.blocks) path.runs
IsAskWithin net (asks.Path number request) =
    (number ≤ MAX_NUMBER) × IsRequestWithinLimits request × HasPoints net request
IsAskWithin net (asks.Free number entry) = (number ≤ MAX_NUMBER) × (entry ≤ MAX_NUMBER)
IsAskWithin net (asks.Show entry) = entry ≤ MAX_NUMBER
IsAskWithin net asks.Front = Unit {0}

pub record IsLineWithin (net : Network) (line : Line) : Type 0 where
  pub after : IfSome line.after (λ front. front ≤ MAX_NUMBER)
  pub ask : IsAskWithin net line.ask
