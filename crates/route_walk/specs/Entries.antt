-- Where a route begins, and where it ends.
use Rattle.std.specs.Prelude.{◌≡◌, ℕ, ◌+◌, min, max, Bool, true, false, nat_eq, nat_lt, List}
use Rattle.std.specs.Prelude.{length, slice_get, Option, Some, None, if◌then◌else◌}
use Rattle.rail_types.specs.Infras.{IsRoutePoint}
use Rattle.rail_types.specs.declared.infra_types.ends.Direction.{Direction}
use Rattle.rail_types.specs.declared.infra_types.ends.Direction.TheVariants.{StartToStop}
use Rattle.rail_types.specs.declared.infra_types.ends.Direction.TheVariants.{StopToStart}
use Rattle.rail_types.specs.declared.infra_types.infras.Infra.{Infra}
use Rattle.rail_types.specs.declared.infra_types.routes.Route.{Route}
use Rattle.rail_types.specs.declared.infra_types.routes.RoutePoint.{RoutePoint}
use Rattle.rail_types.specs.declared.infra_types.routes.RoutePoint.TheVariants.{Detector}
use Rattle.rail_types.specs.declared.infra_types.routes.RoutePoint.TheVariants.{BufferStop}
use Rattle.rail_types.specs.declared.infra_types.tracks.Placed.{Placed}
use Rattle.track_graph.specs.declared.stands.Stand.{Stand}
use Rattle.track_graph.specs.Layouts.{Layout}
use Rattle.track_graph.specs.Pieces.{length_of}
use Rattle.track_graph.specs.Stands.{stands_of}
use Rattle.route_walk.specs.declared.places.Place.{Place}
use Rattle.route_walk.specs.declared.places.Point.{Point}
use Rattle.route_walk.specs.declared.places.Point.TheVariants as points
use Rattle.route_walk.specs.declared.places.Spot.{Spot}
use Rattle.route_walk.specs.Counts.{below, rank_of}
use Rattle.route_walk.specs.Places.{ahead_in, position_of}

-- one of the detectors or buffer stops
abbrev pub IsPointOf : Infra → RoutePoint → Type 0
IsPointOf infra point = IsRoutePoint (length infra.detectors) (length infra.buffer_stops) point

abbrev pub track_of : Option Placed → ℕ
track_of None = 0
track_of (Some placed) = placed.track

abbrev pub metre_of : Option Placed → ℕ
metre_of None = 0
metre_of (Some placed) = placed.position

-- the track of the detector or buffer stop of that number
abbrev pub track_at : List Placed → ℕ → ℕ
track_at all number = track_of (slice_get all number)

-- its metre on that track
abbrev pub metre_at : List Placed → ℕ → ℕ
metre_at all number = metre_of (slice_get all number)

-- the point at which a route ends
abbrev pub exit_of : Infra → RoutePoint → Point
exit_of infra (Detector number) = points.Detector number
exit_of infra (BufferStop number) =
    points.Stop (track_at infra.buffer_stops number) (metre_at infra.buffer_stops number)

-- how many detectors stand on the begin's side of the next one, where a route leaves
-- one that so many stand before
abbrev pub gap_past : Direction → ℕ → ℕ
gap_past StartToStop rank = rank + 1
gap_past StopToStart rank = rank

-- the metre before which those buffer stops stand that are on the begin's side of a route
-- that leaves a detector there: a stop at its position is ahead, but at the end of the
-- track that it leaves it is behind
abbrev pub side_of_detector : Direction → ℕ → ℕ → ℕ
side_of_detector StartToStop length_m metre = max metre 1
side_of_detector StopToStart length_m metre = min (metre + 1) length_m

-- the position of the first buffer stop ahead in a direction, where those before this
-- metre are on the begin's side
abbrev pub stop_from : Direction → ℕ → List Stand → Option ℕ
stop_from direction metre stops = position_of (ahead_in direction stops (below metre stops))

abbrev pub detector_spot : Infra → Layout → Direction → ℕ → Spot
detector_spot infra layout direction number =
    let track = track_at infra.detectors number in
    let at = metre_at infra.detectors number in
    record {
      track = track;
      direction = direction;
      at = at;
      gap = gap_past direction (rank_of at number (stands_of layout.stands track));
      stop = stop_from direction (side_of_detector direction (length_of infra.tracks track) at)
          (stands_of layout.stops track);
      passed = true;
    }

-- the metre before which those detectors stand that are on the begin's side of a route
-- that leaves a buffer stop there: those at its position are ahead, but at the end towards
-- which it leaves they are behind
abbrev pub side_of_stop : Direction → ℕ → ℕ → ℕ
side_of_stop StartToStop length_m metre = if nat_eq metre length_m then metre + 1 else metre
side_of_stop StopToStart length_m metre = if nat_eq metre 0 then 0 else metre + 1

-- the metre before which those buffer stops stand that are on the begin's side of another ahead
abbrev pub side_past_stop : Direction → ℕ → ℕ
side_past_stop StartToStop metre = metre + 1
side_past_stop StopToStart metre = metre

-- whether the exit is another buffer stop at the position of this one, inside the track
abbrev pub is_beside : Infra → ℕ → RoutePoint → Bool
is_beside infra number (Detector other) = false
is_beside infra number (BufferStop other) =
    let track = track_at infra.buffer_stops number in
    let at = metre_at infra.buffer_stops number in
    if nat_eq other number then false
    else (if nat_eq (track_at infra.buffer_stops other) track
    then (if nat_eq (metre_at infra.buffer_stops other) at
    then (if nat_lt 0 at then nat_lt at (length_of infra.tracks track) else false)
    else false)
    else false)

abbrev pub stop_spot : Infra → Layout → Direction → ℕ → RoutePoint → Spot
stop_spot infra layout direction number exit =
    let track = track_at infra.buffer_stops number in
    let at = metre_at infra.buffer_stops number in
    record {
      track = track;
      direction = direction;
      at = at;
      gap = below (side_of_stop direction (length_of infra.tracks track) at)
          (stands_of layout.stands track);
      stop = if is_beside infra number exit then Some at
          else stop_from direction (side_past_stop direction at) (stands_of layout.stops track);
      passed = false;
    }

abbrev pub entry_at : Infra → Layout → Direction → RoutePoint → RoutePoint → Place
entry_at infra layout direction (Detector number) exit = record {
  from = metre_at infra.detectors number;
  point = Some (points.Detector number);
  level = false;
  spot = detector_spot infra layout direction number;
}
entry_at infra layout direction (BufferStop number) exit = record {
  from = metre_at infra.buffer_stops number;
  point = Some (exit_of infra (BufferStop number));
  level = false;
  spot = stop_spot infra layout direction number exit;
}

-- the place at which a route begins
abbrev pub entry_of : Infra → Layout → Route → Place
entry_of infra layout route = entry_at infra layout route.direction route.entry route.exit

-- A route begins at this place.
pub record IsEntry (infra : Infra) (layout : Layout) (place : Place) : Type 0 where
  pub route : Route
  pub point : IsPointOf infra route.entry
  pub is : place ≡ entry_of infra layout route
