-- What a route comes to along a track.
use Rattle.std.specs.Prelude.{ℕ, ◌+◌, ◌-◌, ◌<◌, ◌≤◌, Bool, true, false, nat_eq, nat_le, nat_lt}
use Rattle.std.specs.Prelude.{List, length, slice_get, Option, Some, None, option_map}
use Rattle.std.specs.Prelude.{if◌then◌else◌, IfSome}
use Rattle.rail_types.specs.declared.infra_types.ends.Direction.{Direction}
use Rattle.rail_types.specs.declared.infra_types.ends.Direction.TheVariants.{StartToStop}
use Rattle.rail_types.specs.declared.infra_types.ends.Direction.TheVariants.{StopToStart}
use Rattle.rail_types.specs.declared.infra_types.ends.End.{End}
use Rattle.rail_types.specs.declared.infra_types.ends.End.TheVariants as ends
use Rattle.rail_types.specs.declared.infra_types.ends.TrackEnd.{TrackEnd}
use Rattle.rail_types.specs.declared.infra_types.infras.Infra.{Infra}
use Rattle.track_graph.specs.declared.stands.Stand.{Stand}
use Rattle.track_graph.specs.Layouts.{Layout}
use Rattle.track_graph.specs.Pieces.{length_of}
use Rattle.track_graph.specs.Stands.{stands_of}
use Rattle.route_walk.specs.declared.places.Point.{Point}
use Rattle.route_walk.specs.declared.places.Point.TheVariants.{Detector, Stop}
use Rattle.route_walk.specs.declared.places.Spot.{Spot}
use Rattle.route_walk.specs.declared.places.Place.{Place}

-- of those that stand along a track the next one in a direction, behind so many on the begin's side
abbrev pub ahead_in : Direction → List Stand → ℕ → Option Stand
ahead_in StartToStop row gap = slice_get row gap
ahead_in StopToStart row gap = if nat_eq gap 0 then None else slice_get row (gap - 1)

abbrev pub position_of : Option Stand → Option ℕ
position_of stand = option_map (λ one. one.position) stand

-- the metre at which a track of so many metres ends in a direction
abbrev pub far_end : Direction → ℕ → ℕ
far_end StartToStop length_m = length_m
far_end StopToStart length_m = 0

-- whether a detector at this metre comes before the buffer stop ahead; a stop at the end from which
-- its track is entered comes before all detectors
abbrev pub stands_first : Direction → ℕ → Option ℕ → ℕ → Bool
stands_first direction length_m None at = true
stands_first StartToStop length_m (Some stop) at = if nat_lt 0 stop then nat_le at stop else false
stands_first StopToStart length_m (Some stop) at =
    if nat_lt stop length_m then nat_le stop at else false

-- how many stand on the begin's side of the next one, after it in a direction
abbrev pub gap_behind : Direction → ℕ → ℕ
gap_behind StartToStop gap = gap + 1
gap_behind StopToStart gap = gap - 1

abbrev pub at_detector : Spot → Stand → Place
at_detector spot detector = record {
  from = spot.at;
  point = Some (Detector detector.number);
  level = if spot.passed then nat_eq detector.position spot.at else false;
  spot = record {
    track = spot.track;
    direction = spot.direction;
    at = detector.position;
    gap = gap_behind spot.direction spot.gap;
    stop = spot.stop;
    passed = true;
  };
}

abbrev pub at_metre : Spot → ℕ → Option Point → Place
at_metre spot at point = record {
  from = spot.at;
  point = point;
  level = false;
  spot = record {
    track = spot.track;
    direction = spot.direction;
    at = at;
    gap = spot.gap;
    stop = spot.stop;
    passed = false;
  };
}

-- the buffer stop ahead, or the track's end
abbrev pub wall_at : Spot → ℕ → Option ℕ → Place
wall_at spot length_m None = at_metre spot (far_end spot.direction length_m) None
wall_at spot length_m (Some stop) = at_metre spot stop (Some (Stop spot.track stop))

abbrev pub at_wall : Spot → ℕ → Place
at_wall spot length_m = wall_at spot length_m spot.stop

-- what the route comes to, where this detector is the next one
abbrev pub come_to : Spot → ℕ → Option Stand → Place
come_to spot length_m None = at_wall spot length_m
come_to spot length_m (Some detector) =
    if stands_first spot.direction length_m spot.stop detector.position
    then at_detector spot detector
    else at_wall spot length_m

-- what a route comes to next along its track
abbrev pub come : Infra → Layout → Spot → Place
come infra layout spot =
    come_to spot (length_of infra.tracks spot.track)
    (ahead_in spot.direction (stands_of layout.stands spot.track) spot.gap)

-- how many stand on the begin's side of the end at which a track is entered
abbrev pub gap_at : End → List Stand → ℕ
gap_at ends.Begin row = 0
gap_at ends.End row = length row

-- the direction away from an end
abbrev pub away_from : End → Direction
away_from ends.Begin = StartToStop
away_from ends.End = StopToStart

abbrev pub metre_at : End → ℕ → ℕ
metre_at ends.Begin length_m = 0
metre_at ends.End length_m = length_m

-- where a route is that enters a track at this end
abbrev pub begin_of : Infra → Layout → TrackEnd → Spot
begin_of infra layout end = record {
  track = end.track;
  direction = away_from end.end;
  at = metre_at end.end (length_of infra.tracks end.track);
  gap = gap_at end.end (stands_of layout.stands end.track);
  stop = position_of (ahead_in (away_from end.end) (stands_of layout.stops end.track)
      (gap_at end.end (stands_of layout.stops end.track)));
  passed = false;
}

-- A spot on one of the tracks, with no more detectors on its begin's side than there are.
pub record IsSpot (infra : Infra) (layout : Layout) (spot : Spot) : Type 0 where
  pub track : spot.track < length infra.tracks
  pub here : spot.at ≤ length_of infra.tracks spot.track
  pub count : spot.gap ≤ length (stands_of layout.stands spot.track)
  pub wall : IfSome spot.stop (λ stop. stop ≤ length_of infra.tracks spot.track)

-- a point that is no detector, or one of so many
abbrev pub IsKnown : ℕ → Option Point → Type 0
IsKnown count None = Unit {0}
IsKnown count (Some (Detector number)) = number < count
IsKnown count (Some (Stop track at)) = Unit {0}

-- A place on one of the tracks.
pub record IsPlace (infra : Infra) (layout : Layout) (place : Place) : Type 0 where
  pub on : IsSpot infra layout place.spot
  pub begun : place.from ≤ length_of infra.tracks place.spot.track
  pub known : IsKnown (length infra.detectors) place.point
