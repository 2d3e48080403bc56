-- What the claims of a step are, in a network without a flaw.
use Rattle.std.specs.Prelude.{◌≡◌, ◌<◌, length, All, None}
use Rattle.rail_types.specs.declared.tracks.Network.{Network}
use Rattle.rail_types.specs.declared.trains.Train.{Train}
use Rattle.rail_types.specs.declared.entries.Settings.{Settings}
use Rattle.rail_types.specs.declared.paths.Claim.{Claim}
use Rattle.rail_types.specs.Flaws.{first_flaw}
use Rattle.rail_types.specs.Limits.{IsNearSpan}
use Rattle.rail_types.specs.Occupation.{HasTicks}
use Rattle.stair_pieces.specs.declared.places.Place.{Place}
use Rattle.stair_pieces.specs.declared.places.Step.{Step}
use Rattle.stair_pieces.specs.Places.{place_after, standing_zones}
use Rattle.stair_pieces.specs.Pieces.{pieces_of}
use Rattle.stair_pieces.specs.Steps.{IsPlaceIn}

-- a claim with ticks on a zone of the network, near enough to be held
pub record IsClaimOn (net : Network) (claim : Claim) : Type 0 where
  pub zone : claim.zone < net.zones
  pub near : IsNearSpan claim.span
  pub ticks : HasTicks claim.span

-- the pieces of a step from a place are such claims
abbrev pub PiecesAreClaims : Type 0
PiecesAreClaims =
    (net : Network) (settings : Settings) (train : Train) (place : Place) (step : Step)
    → first_flaw net ≡ None → IsPlaceIn net settings train place
    → step.block < length net.blocks
    → All (IsClaimOn net) (pieces_of net settings train place step)

-- the zones that a train keeps while it waits at a place are zones of the network
abbrev pub StandingZonesAreOfTheNetwork : Type 0
StandingZonesAreOfTheNetwork =
    (net : Network) (settings : Settings) (train : Train) (place : Place)
    → first_flaw net ≡ None → IsPlaceIn net settings train place
    → All (λ zone. zone < net.zones) (standing_zones net train place)

-- a step leads from a place to a place
abbrev pub StepsLeadToPlaces : Type 0
StepsLeadToPlaces =
    (net : Network) (settings : Settings) (train : Train) (place : Place) (step : Step)
    → IsPlaceIn net settings train place → step.block < length net.blocks
    → IsPlaceIn net settings train (place_after net train place step)
