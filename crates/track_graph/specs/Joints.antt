-- *Inside*: for each end of a track the port that is there.
use Rattle.std.specs.Prelude.{◌≡◌, ℕ, ◌+◌, ◌*◌, ◌<◌, List, length, slice_index_or, slice_set, Bool}
use Rattle.std.specs.Prelude.{true, false, Option, Some, None}
use Rattle.std.specs.List.{All}
use Rattle.rail_types.specs.declared.infra_types.ends.End.{End}
use Rattle.rail_types.specs.declared.infra_types.ends.End.TheVariants as ends
use Rattle.rail_types.specs.declared.infra_types.ends.TrackEnd.{TrackEnd}
use Rattle.rail_types.specs.declared.infra_types.switches.Switch.{Switch}
use Rattle.track_graph.specs.declared.joints.Joint.{Joint}
use Rattle.track_graph.specs.declared.ways.Junction.{Junction}
use Rattle.track_graph.specs.Faults.{IsEarlier, IsFirstTwice}
use Rattle.track_graph.specs.Ways.{HasPort}

abbrev pub heading : ℕ → End → ℕ
heading track ends.Begin = 2 * track
heading track ends.End = 2 * track + 1

-- the number of a track end among all ends
abbrev pub heading_of : TrackEnd → ℕ
heading_of end = heading end.track end.end

-- the port at a track end
abbrev pub joint_at : List (Option Joint) → TrackEnd → Option Joint
joint_at joints end = slice_index_or joints (heading_of end) None

-- The ends of all earlier ports have them, and no other end has one.
pub record AreJoints (switches : List Switch) (number port : ℕ)
    (joints : List (Option Joint)) : Type 0 where
  pub there : (n p : ℕ) (end : TrackEnd) → IsEarlier n p number port → HasPort switches n p end
      → joint_at joints end ≡ Some (record { switch = n; port = p })
  pub from : (end : TrackEnd) (joint : Joint) → joint_at joints end ≡ Some joint
      → HasPort switches joint.switch joint.port end × IsEarlier joint.switch joint.port number port

-- The ends of all ports have them.
abbrev pub AreAllNamed : List Switch → List (Option Joint) → Type 0
AreAllNamed switches joints = AreJoints switches (length switches) 0 joints

-- each port's end has a number below this
abbrev pub AreHeadings : ℕ → List Switch → Type 0
AreHeadings count switches =
    All (λ switch. All (λ end. heading_of end < count) switch.ports) switches

-- The port took an end that had none, or the end had one.
abbrev pub Took : List (Option Joint) → List (Option Joint) → TrackEnd → Joint → Bool → Type 0
Took old new end joint true =
    (joint_at old end ≡ None) × (new ≡ slice_set old (heading_of end) (Some joint))
Took old new end joint false = (other : Joint) × (joint_at old end ≡ Some other)

-- All ports before this one took their ends, or the first that could not has this one.
abbrev pub Named : List Switch → ℕ → List (Option Joint) → Option TrackEnd → Type 0
Named switches number joints None = AreJoints switches number 0 joints
Named switches number joints (Some end) = IsFirstTwice switches end

-- what of a switch the graph keeps
abbrev pub junction_of : Switch → Junction
junction_of switch = record { kind = switch.kind; ports = switch.ports }
