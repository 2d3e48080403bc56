-- Where the ways across a switch lead.
use Rattle.std.specs.Prelude.{◌≡◌, ℕ, nat_eq, List, [], ◌∷◌, slice_get, Option, Some, None}
use Rattle.std.specs.Prelude.{if◌then◌else◌}
use Rattle.rail_types.specs.declared.infra_types.ends.TrackEnd.{TrackEnd}
use Rattle.rail_types.specs.declared.infra_types.switches.Group.{Group}
use Rattle.rail_types.specs.declared.infra_types.switches.Group.TheVariants.{AB1, AB2, A1B1, A1B2}
use Rattle.rail_types.specs.declared.infra_types.switches.Group.TheVariants.{A2B1, A2B2}
use Rattle.rail_types.specs.declared.infra_types.switches.Group.TheVariants.{Other}
use Rattle.rail_types.specs.declared.infra_types.switches.Switch.{Switch}
use Rattle.rail_types.specs.declared.infra_types.switches.SwitchKind.{SwitchKind}
use Rattle.rail_types.specs.declared.infra_types.switches.SwitchKind.TheVariants.{Point, Link}
use Rattle.rail_types.specs.declared.infra_types.switches.SwitchKind.TheVariants.{Crossing}
use Rattle.rail_types.specs.declared.infra_types.switches.SwitchKind.TheVariants.{DoubleSlip}

-- the ways of a point switch with the ports A, B1 and B2
abbrev pub point_ways : Group → List (ℕ × ℕ)
point_ways AB1 = (0, 1) ∷ []
point_ways AB2 = (0, 2) ∷ []
point_ways A1B1 = []
point_ways A1B2 = []
point_ways A2B1 = []
point_ways A2B2 = []
point_ways Other = []

-- the ways of a double slip switch with the ports A1, A2, B1 and B2
abbrev pub slip_ways : Group → List (ℕ × ℕ)
slip_ways AB1 = []
slip_ways AB2 = []
slip_ways A1B1 = (0, 2) ∷ []
slip_ways A1B2 = (0, 3) ∷ []
slip_ways A2B1 = (1, 2) ∷ []
slip_ways A2B2 = (1, 3) ∷ []
slip_ways Other = []

-- the pairs of ports that a group joins; a link (A, B) and a crossing
-- (A1, B1, A2, B2) follow no group
abbrev pub ways : SwitchKind → Group → List (ℕ × ℕ)
ways Point group = point_ways group
ways Link group = (0, 1) ∷ []
ways Crossing group = (0, 1) ∷ (2, 3) ∷ []
ways DoubleSlip group = slip_ways group

-- the port that stands with this one in a pair
abbrev pub port_across : List (ℕ × ℕ) → ℕ → Option ℕ
port_across [] port = None
port_across (way ∷ rest) port =
    if nat_eq port way.0 then Some way.1
    else (if nat_eq port way.1 then Some way.0 else port_across rest port)

-- the switch of this number has this track end at this port
abbrev pub HasPort : List Switch → ℕ → ℕ → TrackEnd → Type 0
HasPort switches number port end =
    (switch : Switch) × (slice_get switches number ≡ Some switch)
    × (slice_get switch.ports port ≡ Some end)

-- A switch has a port at this end, and its group leads from there to the port at the next end.
pub record LeadsTo (switches : List Switch) (end : TrackEnd) (group : Group)
    (next : TrackEnd) : Type 0 where
  pub number : ℕ
  pub switch : Switch
  pub port : ℕ
  pub other : ℕ
  pub is : slice_get switches number ≡ Some switch
  pub from : slice_get switch.ports port ≡ Some end
  pub to : slice_get switch.ports other ≡ Some next
  pub across : port_across (ways switch.kind group) port ≡ Some other
