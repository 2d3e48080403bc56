-- Where a route's ways lead across switches.
use Rattle.std.specs.Prelude.{◌≡◌, ℕ, ◌↔◌, List, nat_eq, find, Option, Some, None}
use Rattle.rail_types.specs.declared.infra_types.ends.Direction.{Direction}
use Rattle.rail_types.specs.declared.infra_types.ends.Direction.TheVariants.{StartToStop}
use Rattle.rail_types.specs.declared.infra_types.ends.Direction.TheVariants.{StopToStart}
use Rattle.rail_types.specs.declared.infra_types.ends.End.{End}
use Rattle.rail_types.specs.declared.infra_types.ends.End.TheVariants as ends
use Rattle.rail_types.specs.declared.infra_types.ends.TrackEnd.{TrackEnd}
use Rattle.rail_types.specs.declared.infra_types.infras.Infra.{Infra}
use Rattle.rail_types.specs.declared.infra_types.switches.Group.{Group}
use Rattle.rail_types.specs.declared.infra_types.switches.Group.TheVariants.{Other}
use Rattle.rail_types.specs.declared.infra_types.switches.Switch.{Switch}
use Rattle.rail_types.specs.declared.infra_types.switches.Way.{Way}
use Rattle.track_graph.specs.Layouts.{Layout}
use Rattle.track_graph.specs.Ways.{LeadsTo}
use Rattle.route_walk.specs.declared.places.Place.{Place}
use Rattle.route_walk.specs.declared.places.Point.{Point}
use Rattle.route_walk.specs.declared.places.Spot.{Spot}
use Rattle.route_walk.specs.Places.{begin_of, come}

abbrev pub group_in : Option Way → Group
group_in None = Other
group_in (Some way) = way.group

-- the group in which a route with these ways crosses a switch
abbrev pub group_of : List Way → ℕ → Group
group_of ways switch = group_in (find (λ way. nat_eq way.switch switch) ways)

-- A switch leads from this end to the next one in the route's group.
abbrev pub Leads : List Switch → List Way → TrackEnd → TrackEnd → Type 0
Leads switches ways end next =
    (group : Group) × (lead : LeadsTo switches end group next) × (group ≡ group_of ways lead.number)

-- The end to which the route's group leads from this one, None where there is no way.
abbrev pub IsLead : Layout → List Way → TrackEnd → Option TrackEnd → Type 0
IsLead layout ways end found =
    (next : TrackEnd) → (found ≡ Some next) ↔ Leads layout.infra.switches ways end next

abbrev pub end_towards : Direction → End
end_towards StartToStop = ends.End
end_towards StopToStart = ends.Begin

-- the end of its track at which a route comes in its direction
abbrev pub end_of : Spot → TrackEnd
end_of spot = record { track = spot.track; end = end_towards spot.direction }

abbrev pub ComesFrom : Option Point → Infra → Layout → List Way → Spot → Place → Type 0
ComesFrom (Some point) infra layout ways spot next = next ≡ come infra layout spot
ComesFrom None infra layout ways spot next =
    (end : TrackEnd) × Leads layout.infra.switches ways (end_of spot) end
    × (next ≡ come infra layout (begin_of infra layout end))

-- From a point a route comes to what is next on its track; from the end of a track to the first
-- thing on the track to which its way leads.
abbrev pub Comes : Infra → Layout → List Way → Place → Place → Type 0
Comes infra layout ways place next = ComesFrom place.point infra layout ways place.spot next

-- The next place, None where no way leads on.
abbrev pub IsNext : Infra → Layout → List Way → Place → Option Place → Type 0
IsNext infra layout ways place found =
    (next : Place) → (found ≡ Some next) ↔ Comes infra layout ways place next
