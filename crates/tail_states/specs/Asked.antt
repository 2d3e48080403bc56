-- What is asked of a network and of a request.
use Rattle.std.specs.Prelude.{◌≡◌, ◌<◌, ◌≤◌, ℕ, length, All, Option, None, Some, slice_get}
use Rattle.rail_types.specs.declared.tracks.Network.{Network}
use Rattle.rail_types.specs.declared.trains.Request.{Request}
use Rattle.rail_types.specs.declared.trains.Stop.{Stop}
use Rattle.rail_types.specs.declared.limits.TheConstants.{MAX_OBJECTS, MAX_STOPS}
use Rattle.rail_types.specs.Flaws.{first_flaw}
use Rattle.rail_types.specs.declared.entries.Settings.{Settings}
use Rattle.rail_types.specs.Limits.{IsBlockWithinLimits, IsTrainWithinLimits}
use Rattle.rail_types.specs.Limits.{IsSettingsWithinLimits}
use Rattle.stair_pieces.specs.declared.places.Place.{Place}
use Rattle.stair_pieces.specs.Places.{start_place}
use Rattle.stair_pieces.specs.Steps.{IsPlaceIn}
use Rattle.stair_pieces.specs.Moves.{IsPlace}

-- the blocks begin and end at points of the network, and serve its operational points
pub record HasPoints (net : Network) : Type 0 where
  pub begins : All (λ block. block.from_point < net.points) net.blocks
  pub ends : All (λ block. block.to_point < net.points) net.blocks
  pub served : All (λ block. All (λ stop. stop < net.stops) block.serves) net.blocks
  pub count : length net.blocks ≤ MAX_OBJECTS

-- a request within its limits on a network within its own
pub record IsAsked (net : Network) (request : Request) : Type 0 where
  pub points : HasPoints net
  pub blocks : All IsBlockWithinLimits net.blocks
  pub train : IsTrainWithinLimits request.train
  pub stops : length request.stops ≤ MAX_STOPS

-- the operational point of a stop, or else the destination
abbrev pub stop_or : ℕ → Option Stop → ℕ
stop_or destination (Some stop) = stop.stop
stop_or destination None = destination

-- where the train may stop next, so many named stops being made
abbrev pub next_stop : Request → ℕ → ℕ
next_stop request made = stop_or request.destination (slice_get request.stops made)

-- a request within its limits may be asked of a network without a flaw
abbrev pub SoundNetworksAreAsked : Type 0
SoundNetworksAreAsked =
    (net : Network) (request : Request) → first_flaw net ≡ None
    → IsTrainWithinLimits request.train → length request.stops ≤ MAX_STOPS → IsAsked net request

-- the start place and each place of a request is one of which pieces and standing zones may be
-- asked; no more stops are made than are named
pub record MayBeCut (net : Network) (settings : Settings) (request : Request) : Type 0 where
  pub start : IsPlaceIn net settings request.train start_place
  pub places : (place : Place) → IsPlace net request place
      → IsPlaceIn net settings request.train place
  pub made : (place : Place) → IsPlace net request place → place.made ≤ length request.stops

-- so it is for each request within its limits
abbrev pub PlacesMayBeCut : Type 0
PlacesMayBeCut =
    (net : Network) (settings : Settings) (request : Request) → IsAsked net request
    → IsSettingsWithinLimits settings → MayBeCut net settings request
