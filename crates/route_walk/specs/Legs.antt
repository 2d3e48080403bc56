-- What a walk passes: its points with their metres, and the zones between them.
use Rattle.std.specs.Prelude.{◌≡◌, ℕ, ◌+◌, ◌-◌, ◌*◌, ◌<◌, min, max, true, nat_eq, List, ◌∷◌, length}
use Rattle.std.specs.Prelude.{map, take, slice_get, slice_index_or, Option, Some, None, option_map}
use Rattle.std.specs.Prelude.{if◌then◌else◌}
use Rattle.std.specs.List.{All, AllPairs, filter_map, sum_by}
use Rattle.rail_types.specs.declared.infra_types.ends.Direction.{Direction}
use Rattle.rail_types.specs.declared.infra_types.ends.Direction.TheVariants.{StartToStop}
use Rattle.rail_types.specs.declared.infra_types.ends.Direction.TheVariants.{StopToStart}
use Rattle.rail_types.specs.declared.infra_types.infras.Infra.{Infra}
use Rattle.rail_types.specs.declared.infra_types.routes.Route.{Route}
use Rattle.rail_types.specs.declared.infra_types.routes.RoutePoint.{RoutePoint}
use Rattle.rail_types.specs.declared.infra_types.routes.RoutePoint.TheVariants.{Detector}
use Rattle.rail_types.specs.declared.infra_types.routes.RoutePoint.TheVariants.{BufferStop}
use Rattle.track_graph.specs.Layouts.{Layout, zone_at}
use Rattle.track_graph.specs.Pieces.{length_of, pieces_of}
use Rattle.route_walk.specs.declared.places.Place.{Place}
use Rattle.route_walk.specs.declared.places.Point.{Point}
use Rattle.route_walk.specs.declared.places.Point.TheVariants as points
use Rattle.route_walk.specs.declared.walks.Passed.{Passed}
use Rattle.route_walk.specs.declared.walks.Stretch.{Stretch}
use Rattle.route_walk.specs.Counts.{begun_before}

-- the stretch that leads to a place
abbrev pub stretch_of : Place → Stretch
stretch_of place = record {
  track = place.spot.track;
  direction = place.spot.direction;
  low = min place.from place.spot.at;
  high = max place.from place.spot.at;
}

-- its metres
abbrev pub length_m : Place → ℕ
length_m place = max place.from place.spot.at - min place.from place.spot.at

-- the metres of so many of the stretches
abbrev pub metres_to : List Place → ℕ → ℕ
metres_to places reach = sum_by length_m (take reach places)

abbrev pub side_of : Direction → ℕ
side_of StartToStop = 0
side_of StopToStart = 1

-- how many directed points there are: each detector and each buffer stop in both directions
abbrev pub point_count : Infra → ℕ
point_count infra = 2 * (length infra.detectors + length infra.buffer_stops)

-- the number of a point among twice so many detectors, and the buffer stops behind them
abbrev pub point_number : ℕ → Direction → RoutePoint → ℕ
point_number detectors direction (Detector number) = 2 * number + side_of direction
point_number detectors direction (BufferStop number) = 2 * (detectors + number) + side_of direction

-- the number of a point that a route with this exit passes; the one buffer
-- stop that it reaches is its exit
abbrev pub number_of : ℕ → RoutePoint → Direction → Point → ℕ
number_of detectors exit direction (points.Detector number) = 2 * number + side_of direction
number_of detectors exit direction (points.Stop track at) = point_number detectors direction exit

-- the number of the point at a place, None where there is none
abbrev pub number_at : ℕ → RoutePoint → Place → Option ℕ
number_at detectors exit place =
    option_map (number_of detectors exit place.spot.direction) place.point

-- the number of a route's entry
abbrev pub first_number : ℕ → Route → ℕ
first_number detectors route = point_number detectors route.direction route.entry

-- the numbers of the points at the entry and at these places, None where there is none
abbrev pub numbers_at : ℕ → Route → List Place → List (Option ℕ)
numbers_at detectors route places =
    Some (first_number detectors route) ∷ map (number_at detectors route.exit) places

-- The points passed, from the entry on: all that stand at these places, each where
-- it stands and at its metres.
pub record ArePassed (detectors : ℕ) (route : Route) (places : List Place)
    (passed : List Passed) : Type 0 where
  pub points : map (λ one. one.point) passed
      ≡ first_number detectors route ∷ filter_map (number_at detectors route.exit) places
  pub stand : All (λ one.
      slice_get (numbers_at detectors route places) one.reach ≡ Some (Some one.point)) passed
  pub metres : All (λ one. one.metres ≡ metres_to places one.reach) passed
  pub order : AllPairs (λ one later. one.reach < later.reach) passed

-- a metre such that the last piece that begins before it is the one
-- through which a detector is reached
abbrev pub side_before : Direction → ℕ → ℕ
side_before StartToStop at = at
side_before StopToStart at = at + 1

-- the same for a buffer stop, which stands behind the detectors at its position, but at the end
-- from which its track is entered stands before them
abbrev pub side_before_stop : Direction → ℕ → ℕ → ℕ
side_before_stop StartToStop length_m at = if nat_eq at 0 then 0 else at + 1
side_before_stop StopToStart length_m at = if nat_eq at length_m then at + 1 else at

abbrev pub arrival_side : Direction → ℕ → ℕ → Option Point → ℕ
arrival_side direction length_m at None = side_before direction at
arrival_side direction length_m at (Some (points.Detector number)) = side_before direction at
arrival_side direction length_m at (Some (points.Stop track metre)) =
    side_before_stop direction length_m at

-- the piece through which a place is reached
abbrev pub arrival_piece : Infra → Layout → Place → ℕ
arrival_piece infra layout place =
    let length_m = length_of infra.tracks place.spot.track in
    begun_before (arrival_side place.spot.direction length_m place.spot.at place.point)
    (pieces_of layout.pieces place.spot.track) - 1

-- the zone through which a place is reached, None between detectors at one position
abbrev pub zone_to : Infra → Layout → Place → Option ℕ
zone_to infra layout place =
    if place.level then None
    else Some (zone_at layout place.spot.track (arrival_piece infra layout place))

-- that zone, where a point is at the place
abbrev pub leg_at : Infra → Layout → Place → Option (Option ℕ)
leg_at infra layout place = option_map (λ point. zone_to infra layout place) place.point

-- A level place is at the position of the detector before it; none but a detector is passed.
pub record IsBehind (before place : Place) : Type 0 where
  pub level : place.level ≡ true → (before.spot.passed ≡ true) × (place.from ≡ place.spot.at)
  pub passed : place.spot.passed ≡ true → place.point ≡ None → ⊥

-- Each place is behind the one before it.
abbrev pub AreBehind : Place → List Place → Type 0
AreBehind entry places =
    (k : ℕ) (d : Place) → k < length places
    → IsBehind (slice_index_or (entry ∷ places) k d) (slice_index_or places k d)
