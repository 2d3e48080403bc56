-- The walk of a route, and why a route has none.
use Rattle.std.specs.Prelude.{◌≡◌, ◌≢◌, ℕ, ◌+◌, ◌*◌, List, ◌∷◌, length, map, slice_get, Option}
use Rattle.std.specs.Prelude.{Some, None}
use Rattle.std.specs.List.{filter_map, sum_by}
use Rattle.rail_types.specs.declared.infra_types.infras.Infra.{Infra}
use Rattle.rail_types.specs.declared.infra_types.routes.Route.{Route}
use Rattle.track_graph.specs.Layouts.{IsLayoutOf, Layout}
use Rattle.route_walk.specs.declared.places.Place.{Place}
use Rattle.route_walk.specs.declared.walks.Walk.{Walk}
use Rattle.route_walk.specs.declared.walks.WalkFault.{WalkFault}
use Rattle.route_walk.specs.declared.walks.WalkFault.TheVariants.{NoWay, Loop, StrayRelease, Memory}
use Rattle.route_walk.specs.Courses.{HasNoWay, IsRound, IsThrough, detectors_of}
use Rattle.route_walk.specs.Entries.{entry_of, exit_of}
use Rattle.route_walk.specs.Legs.{ArePassed, leg_at, length_m, stretch_of}
use Rattle.route_walk.specs.Releases.{first_stray, releases_at}
use Rattle.route_walk.specs.Ways.{Comes}

-- the route of that number
abbrev pub IsRouteAt : Infra → ℕ → Route → Type 0
IsRouteAt infra number route = slice_get infra.routes number ≡ Some route

-- one more than the detectors and the ends of tracks
abbrev pub limit_of : Infra → ℕ
limit_of infra = length infra.detectors + 2 * length infra.tracks + 1

-- The route comes by these places to its exit.
abbrev pub Reaches : Infra → Layout → Route → List Place → Type 0
Reaches infra layout route places =
    IsThrough (Comes infra layout route.ways) (entry_of infra layout route)
    (exit_of infra route.exit) places

-- the release that is none of the detectors passed, the first in the route's own order
abbrev pub stray_of : Infra → Layout → Route → List Place → Option ℕ
stray_of infra layout route places =
    first_stray (detectors_of (entry_of infra layout route ∷ places)) route.releases

-- What the walk tells of these places.
pub record TellsOf (infra : Infra) (layout : Layout) (route : Route) (places : List Place)
    (walk : Walk) : Type 0 where
  pub points : ArePassed (length infra.detectors) route places walk.passed
  pub between : walk.zones ≡ filter_map (leg_at infra layout) places
  pub along : walk.stretches ≡ map stretch_of places
  pub released : walk.releases ≡ releases_at (length infra.detectors) route.releases walk.passed

-- The walk of the route of that number: it comes to its exit, and no release detector is beside it.
pub record IsWalkOf (infra : Infra) (layout : Layout) (number : ℕ) (walk : Walk) : Type 0 where
  pub route : Route
  pub is : IsRouteAt infra number route
  pub places : List Place
  pub reaches : Reaches infra layout route places
  pub tells : TellsOf infra layout route places walk
  pub own : stray_of infra layout route places ≡ None

-- So many metres from its entry the route of that number has no way.
pub record EndsAt (infra : Infra) (layout : Layout) (number at : ℕ) : Type 0 where
  pub route : Route
  pub is : IsRouteAt infra number route
  pub places : List Place
  pub no_way : HasNoWay (Comes infra layout route.ways) (entry_of infra layout route)
      (exit_of infra route.exit) places
  pub metres : at ≡ sum_by length_m places

-- The route of that number comes to a detector that it has passed.
pub record GoesRound (infra : Infra) (layout : Layout) (number : ℕ) : Type 0 where
  pub route : Route
  pub is : IsRouteAt infra number route
  pub places : List Place
  pub round : IsRound (Comes infra layout route.ways) (entry_of infra layout route)
      (exit_of infra route.exit) places

-- The route of that number comes to its exit, and this is the first of its release
-- detectors that is beside it.
pub record Strays (infra : Infra) (layout : Layout) (number detector : ℕ) : Type 0 where
  pub route : Route
  pub is : IsRouteAt infra number route
  pub places : List Place
  pub reaches : Reaches infra layout route places
  pub stray : stray_of infra layout route places ≡ Some detector

-- Why the route of that number has no walk.
abbrev pub WalkTells : Infra → Layout → ℕ → WalkFault → Type 0
WalkTells infra layout number (NoWay route at) = (route ≡ number) × EndsAt infra layout number at
WalkTells infra layout number (Loop route) = (route ≡ number) × GoesRound infra layout number
WalkTells infra layout number (StrayRelease route detector) =
    (route ≡ number) × Strays infra layout number detector
WalkTells infra layout number Memory = Unit {0}

-- Two walks of a route are the same.
abbrev pub WalksAreOne : Type 0
WalksAreOne =
    (infra : Infra) (layout : Layout) (number : ℕ) (one other : Walk) → IsLayoutOf infra layout
    → IsWalkOf infra layout number one → IsWalkOf infra layout number other → one ≡ other

-- Two faults of a route are the same, unless memory was wanted.
abbrev pub FaultsAreOne : Type 0
FaultsAreOne =
    (infra : Infra) (layout : Layout) (number : ℕ) (one other : WalkFault) → IsLayoutOf infra layout
    → one ≢ Memory → other ≢ Memory
    → WalkTells infra layout number one → WalkTells infra layout number other → one ≡ other

-- A route that has a walk has no fault, unless memory was wanted.
abbrev pub WalkOrFault : Type 0
WalkOrFault =
    (infra : Infra) (layout : Layout) (number : ℕ) (walk : Walk) (fault : WalkFault)
    → IsLayoutOf infra layout → fault ≢ Memory
    → IsWalkOf infra layout number walk → WalkTells infra layout number fault → ⊥
