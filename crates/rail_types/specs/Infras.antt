-- Infrastructures of which each number names an object of its list.
use Rattle.std.specs.Prelude.{◌≡◌, ℕ, ◌<◌, ◌≤◌, List, map, length, slice_index_or, All, IfSome}
use Rattle.std.specs.List.{AllPairs}
use Rattle.rail_types.specs.declared.limits.TheConstants.{MAX_OBJECTS, MAX_TRACK_LENGTH_M}
use Rattle.rail_types.specs.declared.limits.TheConstants.{MAX_SIGHT_M, MAX_SPEED_MM_S}
use Rattle.rail_types.specs.Named.{IsId}
use Rattle.rail_types.specs.declared.infra_types.infras.Infra.{Infra}
use Rattle.rail_types.specs.declared.infra_types.tracks.Track.{Track}
use Rattle.rail_types.specs.declared.infra_types.tracks.Placed.{Placed}
use Rattle.rail_types.specs.declared.infra_types.tracks.OperationalPoint.{OperationalPoint}
use Rattle.rail_types.specs.declared.infra_types.tracks.Range.{Range}
use Rattle.rail_types.specs.declared.infra_types.tracks.SpeedSection.{SpeedSection}
use Rattle.rail_types.specs.declared.infra_types.switches.Switch.{Switch}
use Rattle.rail_types.specs.declared.infra_types.switches.SwitchKind.{SwitchKind}
use Rattle.rail_types.specs.declared.infra_types.switches.SwitchKind.TheVariants.{Point, Link}
use Rattle.rail_types.specs.declared.infra_types.switches.SwitchKind.TheVariants.{Crossing}
use Rattle.rail_types.specs.declared.infra_types.switches.SwitchKind.TheVariants.{DoubleSlip}
use Rattle.rail_types.specs.declared.infra_types.switches.Way.{Way}
use Rattle.rail_types.specs.declared.infra_types.signals.Bal.{Bal}
use Rattle.rail_types.specs.declared.infra_types.signals.Signal.{Signal}
use Rattle.rail_types.specs.declared.infra_types.routes.Route.{Route}
use Rattle.rail_types.specs.declared.infra_types.routes.RoutePoint.{RoutePoint}
use Rattle.rail_types.specs.declared.infra_types.routes.RoutePoint.TheVariants.{Detector}
use Rattle.rail_types.specs.declared.infra_types.routes.RoutePoint.TheVariants.{BufferStop}

-- no list of objects is longer than its limit
pub record AreFew (infra : Infra) : Type 0 where
  pub tracks : length infra.tracks ≤ MAX_OBJECTS
  pub switches : length infra.switches ≤ MAX_OBJECTS
  pub detectors : length infra.detectors ≤ MAX_OBJECTS
  pub buffer_stops : length infra.buffer_stops ≤ MAX_OBJECTS
  pub signals : length infra.signals ≤ MAX_OBJECTS
  pub routes : length infra.routes ≤ MAX_OBJECTS
  pub points : length infra.points ≤ MAX_OBJECTS
  pub speeds : length infra.speeds ≤ MAX_OBJECTS

-- a track of 1 m to its limit
abbrev pub IsTrack : Track → Type 0
IsTrack track = (1 ≤ track.length) × (track.length ≤ MAX_TRACK_LENGTH_M)

-- the lengths of tracks
abbrev pub lengths_of : List Track → List ℕ
lengths_of tracks = map (λ track. track.length) tracks

-- how many ports a kind of switch has
abbrev pub port_count : SwitchKind → ℕ
port_count Point = 3
port_count Link = 2
port_count Crossing = 4
port_count DoubleSlip = 4

-- the ports of its kind, each at one of so many tracks
pub record IsSwitch (tracks : ℕ) (switch : Switch) : Type 0 where
  pub ports : length switch.ports ≡ port_count switch.kind
  pub joined : All (λ port. port.track < tracks) switch.ports

-- a detector or a buffer stop on one of so many tracks
abbrev pub IsPlaced : ℕ → Placed → Type 0
IsPlaced tracks placed = placed.track < tracks

-- a block signal on one of so many tracks
abbrev pub IsBal : ℕ → Bal → Type 0
IsBal tracks bal = (bal.track < tracks) × (bal.sight_m ≤ MAX_SIGHT_M)

abbrev pub IsSignal : ℕ → Signal → Type 0
IsSignal tracks signal = IfSome signal.bal (IsBal tracks)

-- one of so many detectors or buffer stops
abbrev pub IsRoutePoint : ℕ → ℕ → RoutePoint → Type 0
IsRoutePoint detectors buffer_stops (Detector number) = number < detectors
IsRoutePoint detectors buffer_stops (BufferStop number) = number < buffer_stops

-- ways across some of so many switches, by ascending switch number
pub record AreWays (switches : ℕ) (ways : List Way) : Type 0 where
  pub known : All (λ way. way.switch < switches) ways
  pub ascend : AllPairs (λ one later. one.switch < later.switch) ways

-- a route between so many detectors and buffer stops, across so many switches
pub record IsRoute (switches detectors buffer_stops : ℕ) (route : Route) : Type 0 where
  pub entry : IsRoutePoint detectors buffer_stops route.entry
  pub exit : IsRoutePoint detectors buffer_stops route.exit
  pub ways : AreWays switches route.ways
  pub releases : All (λ release. release < detectors) route.releases
  pub count : length route.releases ≤ MAX_OBJECTS

-- an operational point whose parts are on so many tracks
pub record IsPoint (tracks : ℕ) (point : OperationalPoint) : Type 0 where
  pub parts : All (λ part. part.track < tracks) point.parts
  pub count : length point.parts ≤ MAX_OBJECTS

-- a range within its track, one of the tracks of these lengths
pub record IsRange (lengths : List ℕ) (range : Range) : Type 0 where
  pub track : range.track < length lengths
  pub begin : range.begin ≤ slice_index_or lengths range.track 0
  pub end : range.end ≤ slice_index_or lengths range.track 0

-- a speed section without limit, or with one of 1 mm/s to the greatest
-- speed, on tracks of these lengths
pub record IsSpeed (lengths : List ℕ) (section : SpeedSection) : Type 0 where
  pub limit : IfSome section.limit (λ limit. (1 ≤ limit) × (limit ≤ MAX_SPEED_MM_S))
  pub ranges : All (IsRange lengths) section.ranges
  pub count : length section.ranges ≤ MAX_OBJECTS

-- the names of tracks, routes and operational points are ids
pub record AreNamed (infra : Infra) : Type 0 where
  pub tracks : All (λ track. IsId track.id) infra.tracks
  pub routes : All (λ route. IsId route.id) infra.routes
  pub points : All (λ point. IsId point.id) infra.points

-- An infrastructure as a file gives it: each list within its limit, each object within these lists.
pub record IsInfra (infra : Infra) : Type 0 where
  pub counts : AreFew infra
  pub tracks : All IsTrack infra.tracks
  pub switches : All (IsSwitch (length infra.tracks)) infra.switches
  pub detectors : All (IsPlaced (length infra.tracks)) infra.detectors
  pub buffer_stops : All (IsPlaced (length infra.tracks)) infra.buffer_stops
  pub signals : All (IsSignal (length infra.tracks)) infra.signals
  pub routes : All
      (IsRoute (length infra.switches) (length infra.detectors)
      (length infra.buffer_stops)) infra.routes
  pub points : All (IsPoint (length infra.tracks)) infra.points
  pub speeds : All (IsSpeed (lengths_of infra.tracks)) infra.speeds
  pub ids : AreNamed infra
