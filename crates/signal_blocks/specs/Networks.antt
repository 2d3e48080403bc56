-- The network of an infrastructure, or why it has none.
use Rattle.std.specs.Prelude.{◌≡◌, ◌≢◌, ℕ, ◌<◌, List, [], slice_get, length, Option, Some, None}
use Rattle.signal_blocks.specs.Faults.{railway_fault}
use Rattle.signal_blocks.specs.CutNetworks.{IsNetwork}
use Rattle.signal_blocks.specs.declared.block_cuts.faults.Fault.TheVariants as faults
use Rattle.signal_blocks.specs.declared.block_cuts.faults.Fault.{Fault}
use Rattle.signal_blocks.specs.declared.block_cuts.faults.Railway.{Railway}
use Rattle.rail_types.specs.declared.infra_types.infras.Infra.{Infra}
use Rattle.rail_types.specs.declared.infra_types.routes.Route.{Route}
use Rattle.rail_types.specs.declared.infra_types.tracks.Placed.{Placed}
use Rattle.rail_types.specs.declared.named_network.Named.{Named}
use Rattle.route_walk.specs.Walks.{WalkTells}
use Rattle.route_walk.specs.declared.walks.Walk.{Walk}
use Rattle.route_walk.specs.declared.walks.WalkFault.TheVariants as walks
use Rattle.route_walk.specs.declared.walks.WalkFault.{WalkFault}
use Rattle.track_graph.specs.Layouts.{IsLayoutOf, Layout, Tells}
use Rattle.track_graph.specs.declared.faults.GraphFault.TheVariants as graphs
use Rattle.signal_blocks.specs.Names.{block_names, stop_names, zone_names}
use Rattle.signal_blocks.specs.Railways.{AreWalksOf, IsRailwayOf}
use Rattle.signal_blocks.specs.declared.faults.NetFault.TheVariants.{Graph, Walk as OfWalk}
use Rattle.signal_blocks.specs.declared.faults.NetFault.TheVariants.{EmptyBlock, Limit, Memory}
use Rattle.signal_blocks.specs.declared.faults.NetFault.{NetFault}
use Rattle.signal_blocks.specs.declared.faults.RouteFault.TheVariants.{NoWay, Loop, StrayRelease}
use Rattle.signal_blocks.specs.declared.faults.RouteFault.{RouteFault}

-- The network of an infrastructure whose railway has no fault, with the names of its
-- operational points, blocks, zones.
pub record IsNetworkOf (infra : Infra) (named : Named) : Type 0 where
  pub layout : Layout
  pub railway : Railway
  pub is : IsRailwayOf infra layout railway
  pub sound : railway_fault railway ≡ None
  pub network : IsNetwork railway named.network
  pub stops : named.stops ≡ stop_names infra.points
  pub blocks : named.blocks ≡ block_names railway.lines.sights infra.routes railway.walks
  pub zones : named.zones ≡ zone_names infra layout

abbrev pub id_of_route : Option Route → List ℕ
id_of_route None = []
id_of_route (Some route) = route.id

abbrev pub id_of_detector : Option Placed → List ℕ
id_of_detector None = []
id_of_detector (Some placed) = placed.id

-- the name of the route of that number
abbrev pub route_name : Infra → ℕ → List ℕ
route_name infra number = id_of_route (slice_get infra.routes number)

-- the name of the detector of that number
abbrev pub detector_name : Infra → ℕ → List ℕ
detector_name infra number = id_of_detector (slice_get infra.detectors number)

-- the fault of a walk, told by names
abbrev pub named_fault : Infra → WalkFault → Option RouteFault
named_fault infra (walks.NoWay route at) = Some (NoWay (route_name infra route) at)
named_fault infra (walks.Loop route) = Some (Loop (route_name infra route))
named_fault infra (walks.StrayRelease route detector) =
    Some (StrayRelease (route_name infra route) (detector_name infra detector))
named_fault infra walks.Memory = None

-- The first route without a walk, and why it has none.
pub record IsFirstWalkFault (infra : Infra) (fault : RouteFault) : Type 0 where
  pub layout : Layout
  pub is : IsLayoutOf infra layout
  pub route : ℕ
  pub within : route < length infra.routes
  pub before : List Walk
  pub walked : AreWalksOf infra layout route before
  pub why : WalkFault
  pub tells : WalkTells infra layout route why
  pub named : named_fault infra why ≡ Some fault

-- All routes have walks, and the railway has this fault first.
pub record HasFault (infra : Infra) (fault : Fault) : Type 0 where
  pub layout : Layout
  pub railway : Railway
  pub is : IsRailwayOf infra layout railway
  pub first : railway_fault railway ≡ Some fault

-- Of a route with this name the railway has an empty block first.
abbrev pub HasEmptyBlock : Infra → List ℕ → ℕ → Type 0
HasEmptyBlock infra name at =
    (route : ℕ) × (name ≡ route_name infra route) × HasFault infra (faults.EmptyBlock route at)

-- The first fault: of ports and positions, of walks by route, of blocks by route, of counts.
abbrev pub NetTells : Infra → NetFault → Type 0
NetTells infra (Graph fault) = Tells infra fault × (fault ≢ graphs.Memory)
NetTells infra (OfWalk fault) = IsFirstWalkFault infra fault
NetTells infra (EmptyBlock route at) = HasEmptyBlock infra route at
NetTells infra (Limit what count) = HasFault infra (faults.Limit what count)
NetTells infra Memory = Unit {0}
