-- The plan of a request within its limits, in a network without a flaw, may be searched.
use Rattle.std.specs.Prelude.{◌≡◌, ◌≤◌, ℕ, List, length, None, Some, slice_get}
use Rattle.rail_types.specs.declared.limits.TheConstants.{MAX_PLACES}
use Rattle.rail_types.specs.declared.tracks.Network.{Network}
use Rattle.rail_types.specs.declared.trains.Request.{Request}
use Rattle.rail_types.specs.declared.entries.Settings.{Settings}
use Rattle.rail_types.specs.Flaws.{first_flaw}
use Rattle.rail_types.specs.Limits.{IsRequestWithinLimits, IsSettingsWithinLimits}
use Rattle.occupation_book.specs.Zones.{Zone}
use Rattle.stair_pieces.specs.declared.places.Place.{Place}
use Rattle.stair_pieces.specs.Steps.{IsPlaceIn}
use Rattle.tail_states.specs.Listed.{Listed, AreThePlaces, AreTheMoves}
use Rattle.label_search.specs.declared.plans.Plan.{Plan}
use Rattle.label_search.specs.Plans.{IsPlan}
use Rattle.path_labels.specs.Plans.{IsPlanOf}

-- what is listed for the request is what is planned, within all limits
pub record IsPlannedWithinLimits (net : Network) (settings : Settings) (request : Request)
    (listed : Listed) (plan : Plan) : Type 0 where
  pub flawless : first_flaw net ≡ None
  pub asked : IsRequestWithinLimits request
  pub timetable : IsSettingsWithinLimits settings
  pub places : AreThePlaces net request listed.members
  pub moves : AreTheMoves net request listed
  pub few : length listed.members ≤ MAX_PLACES
  pub planned : IsPlanOf net settings request listed plan

-- The same where the places are not known to be those of the request and no others: from each of
-- them exactly the moves of the request are listed and planned. It is all that paths of the plan
-- need.
pub record IsPlannedOver (net : Network) (settings : Settings) (request : Request)
    (listed : Listed) (plan : Plan) : Type 0 where
  pub flawless : first_flaw net ≡ None
  pub asked : IsRequestWithinLimits request
  pub timetable : IsSettingsWithinLimits settings
  pub moves : AreTheMoves net request listed
  pub planned : IsPlanOf net settings request listed plan

-- pieces and standing zones may be asked of each listed place
abbrev pub AreCut : Network → Settings → Request → Listed → Type 0
AreCut net settings request listed =
    (number : ℕ) (place : Place) → slice_get listed.members number ≡ Some place
    → IsPlaceIn net settings request.train place

-- a plan over such places may be searched in each book of as many zones as the network has
abbrev pub PlansOverMayBeSearched : Type 0
PlansOverMayBeSearched =
    (net : Network) (settings : Settings) (request : Request) (listed : Listed) (plan : Plan)
    (book : List Zone) → IsPlannedOver net settings request listed plan
    → AreCut net settings request listed → length book ≡ net.zones → IsPlan plan book

-- the plan of all places of a request may be searched too
abbrev pub PlansMayBeSearched : Type 0
PlansMayBeSearched =
    (net : Network) (settings : Settings) (request : Request) (listed : Listed) (plan : Plan)
    (book : List Zone) → IsPlannedWithinLimits net settings request listed plan
    → length book ≡ net.zones → IsPlan plan book
