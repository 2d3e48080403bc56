-- The first lists, of which others name objects, and those behind them.
use Rattle.std.specs.Prelude.{◌≤◌, length, All}
use Rattle.rail_types.specs.declared.limits.TheConstants.{MAX_OBJECTS}
use Rattle.rail_types.specs.Named.{IsId}
use Rattle.rail_types.specs.Infras.{IsTrack, IsSwitch, IsPlaced, IsSignal, IsRoute, IsPoint}
use Rattle.rail_types.specs.Infras.{IsSpeed, lengths_of}
use Rattle.railjson_read.specs.declared.wholes.FirstLists.{FirstLists}
use Rattle.railjson_read.specs.declared.wholes.Landmarks.{Landmarks}
use Rattle.railjson_read.specs.declared.wholes.Others.{Others}

-- each list within its limit, each object on these tracks
pub record AreLandmarks (landmarks : Landmarks) : Type 0 where
  pub few_tracks : length landmarks.tracks ≤ MAX_OBJECTS
  pub few_switches : length landmarks.switches ≤ MAX_OBJECTS
  pub few_detectors : length landmarks.detectors ≤ MAX_OBJECTS
  pub few_stops : length landmarks.buffer_stops ≤ MAX_OBJECTS
  pub tracks : All IsTrack landmarks.tracks
  pub names : All (λ track. IsId track.id) landmarks.tracks
  pub switches : All (IsSwitch (length landmarks.tracks)) landmarks.switches
  pub detectors : All (IsPlaced (length landmarks.tracks)) landmarks.detectors
  pub stops : All (IsPlaced (length landmarks.tracks)) landmarks.buffer_stops

-- landmarks, and signals on their tracks, no more than the limit
pub record AreFirst (lists : FirstLists) : Type 0 where
  pub landmarks : AreLandmarks lists.landmarks
  pub few : length lists.signals ≤ MAX_OBJECTS
  pub signals : All (IsSignal (length lists.landmarks.tracks)) lists.signals

-- each list within its limit, each object on and between these landmarks
pub record AreOthers (landmarks : Landmarks) (others : Others) : Type 0 where
  pub few_routes : length others.routes ≤ MAX_OBJECTS
  pub few_points : length others.points ≤ MAX_OBJECTS
  pub few_speeds : length others.speeds ≤ MAX_OBJECTS
  pub routes : All
      (IsRoute (length landmarks.switches) (length landmarks.detectors)
      (length landmarks.buffer_stops)) others.routes
  pub route_ids : All (λ route. IsId route.id) others.routes
  pub points : All (IsPoint (length landmarks.tracks)) others.points
  pub point_ids : All (λ point. IsId point.id) others.points
  pub speeds : All (IsSpeed (lengths_of landmarks.tracks)) others.speeds
