-- What is planned for a request is planned for each that differs in its windows alone.
use Rattle.std.proofs.Common.{◌≡◌, subst}
use Rattle.rail_types.specs.declared.tracks.Network.{Network}
use Rattle.rail_types.specs.declared.trains.Request.{Request}
use Rattle.rail_types.specs.declared.entries.Settings.{Settings}
use Rattle.rail_types.specs.Limits.{IsRequestWithinLimits}
use Rattle.label_search.specs.declared.plans.Plan.{Plan}
use Rattle.tail_states.specs.Alike.{AreAlike, WindowsChangeNoPlaces}
use Rattle.tail_states.specs.Listed.{Listed}
use Rattle.path_labels.specs.Joining.{IsPlannedFrom}
use Rattle.path_labels.specs.Plans.{IsPlanOf}
use Rattle.path_labels.specs.Searched.{IsPlannedWithinLimits}

-- the one request in the windows of the other
abbrev in_windows_of : Request → Request → Request
in_windows_of other one = record {
  train = one.train;
  origin = one.origin;
  destination = one.destination;
  depart = other.depart;
  arrive = other.arrive;
  stops = one.stops;
}

is_the_other : (one other : Request) → AreAlike one other → in_windows_of other one ≡ other
is_the_other one other alike = λ j. record {
  train = alike.train j;
  origin = alike.origin j;
  destination = alike.destination j;
  depart = other.depart;
  arrive = other.arrive;
  stops = alike.stops j;
}

in_other_windows : (net : Network) (settings : Settings) (one other : Request) (listed : Listed) (plan : Plan) → IsPlanOf net settings one listed plan → IsPlanOf net settings (in_windows_of other one) listed plan
in_other_windows net settings one other listed plan planned = record {
  places = record { counted = planned.places.counted; start = planned.places.start; places = planned.places.places };
  horizon = planned.horizon;
}

pub planned_alike : WindowsChangeNoPlaces → (net : Network) (settings : Settings) (one other : Request) (listed : Listed) (plan : Plan) → AreAlike one other → IsPlannedFrom net settings one listed plan → IsPlannedFrom net settings other listed plan
planned_alike windows net settings one other listed plan alike all =
    let same = windows net one other alike in
    record {
      moves = same.moves listed all.moves;
      planned = subst (λ (request : Request). IsPlanOf net settings request listed plan) (is_the_other one other alike) (in_other_windows net settings one other listed plan all.planned);
    }

pub within_limits_alike : WindowsChangeNoPlaces → (net : Network) (settings : Settings) (one other : Request) (listed : Listed) (plan : Plan) → AreAlike one other → IsRequestWithinLimits other → IsPlannedWithinLimits net settings one listed plan
    → IsPlannedWithinLimits net settings other listed plan
within_limits_alike windows net settings one other listed plan alike within all =
    let from : IsPlannedFrom net settings one listed plan = record { moves = all.moves; planned = all.planned } in
    let too = planned_alike windows net settings one other listed plan alike from in
    record {
      flawless = all.flawless;
      asked = within;
      timetable = all.timetable;
      places = (windows net one other alike).places listed.members all.places;
      moves = too.moves;
      few = all.few;
      planned = too.planned;
    }
