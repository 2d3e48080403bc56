-- The places of a request, all of them with all its moves.
use Rattle.std.specs.Prelude.{◌≡◌, ◌≤◌, None, length}
use Rattle.rail_types.specs.declared.limits.TheConstants.{MAX_PLACES}
use Rattle.rail_types.specs.declared.tracks.Network.{Network}
use Rattle.rail_types.specs.declared.trains.Request.{Request}
use Rattle.rail_types.specs.declared.entries.Settings.{Settings}
use Rattle.rail_types.specs.Flaws.{first_flaw}
use Rattle.rail_types.specs.Limits.{IsSettingsWithinLimits}
use Rattle.tail_states.specs.Listed.{AreTheMoves, AreThePlaces, Listed}

-- These are exactly the places of the request, no more than are searched, with exactly its moves;
-- the network has no flaw, and the settings are within their limits.
pub record HasAllPlaces (net : Network) (settings : Settings) (request : Request)
    (listed : Listed) : Type 0 where
  pub flawless : first_flaw net ≡ None
  pub timetable : IsSettingsWithinLimits settings
  pub places : AreThePlaces net request listed.members
  pub moves : AreTheMoves net request listed
  pub few : length listed.members ≤ MAX_PLACES
