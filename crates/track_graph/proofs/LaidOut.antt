-- The layout that a graph's tables make.
use Rattle.std.proofs.Common.{◌≡◌, ℕ, ◌+◌, ◌*◌, ◌<◌, ◌≤◌, ◌^◌, List, length, get_or, map, Option, None, sym, ap, ◌∙◌, arith}
use Rattle.std.proofs.lemmas.List.{get_or_default}
use Rattle.std.proofs.lemmas.List.Elements.{All-weaker}
use Rattle.std.specs.List.{All, sum_by}
use Rattle.std.specs.List.Sorted.{IsStrictlyIncreasing}
use Rattle.rail_types.specs.Infras.{IsInfra, IsSwitch, port_count}
use Rattle.rail_types.specs.declared.infra_types.ends.End.{End}
use Rattle.rail_types.specs.declared.infra_types.ends.End.TheVariants as ends
use Rattle.rail_types.specs.declared.infra_types.ends.TrackEnd.{TrackEnd}
use Rattle.rail_types.specs.declared.infra_types.infras.Infra.{Infra}
use Rattle.rail_types.specs.declared.infra_types.switches.Switch.{Switch}
use Rattle.rail_types.specs.declared.infra_types.switches.SwitchKind.{SwitchKind}
use Rattle.rail_types.specs.declared.infra_types.switches.SwitchKind.TheVariants.{Point, Link, Crossing, DoubleSlip}
use Rattle.track_graph.proofs.PortsNamed.{joints_once}
use Rattle.track_graph.proofs.Totals.{firsts_rise, joins_within, last_first, row_some, sum_few, zones_joined}
use Rattle.track_graph.specs.declared.joints.Joint.{Joint}
use Rattle.track_graph.specs.declared.pieces.Piece.{Piece}
use Rattle.track_graph.specs.declared.stands.Stand.{Stand}
use Rattle.track_graph.specs.declared.ways.Junction.{Junction}
use Rattle.track_graph.specs.Faults.{first_off}
use Rattle.track_graph.specs.Graphs.{IsGraph}
use Rattle.track_graph.specs.Joints.{AreJoints, heading, heading_of, junction_of}
use Rattle.track_graph.specs.Neighbours.{AreNamed, AreWithin, stars}
use Rattle.track_graph.specs.PieceRows.{AreFirsts}
use Rattle.track_graph.specs.Pieces.{ArePieceRows, pieces_of}
use Rattle.track_graph.specs.Stands.{AreOnRows}
use Rattle.track_graph.specs.Zones.{AreZones}

few_ports : (kind : SwitchKind) → port_count kind ≤ 4
few_ports Point = omega arith
few_ports Link = omega arith
few_ports Crossing = omega arith
few_ports DoubleSlip = omega arith

pub ports_few : (n : ℕ) (switches : List Switch) → All (IsSwitch n) switches → All (λ switch. length switch.ports < 2 ^ 32) switches
ports_few n switches all = All-weaker (IsSwitch n) (λ (switch : Switch). length switch.ports < 2 ^ 32) (λ switch is. let few = few_ports switch.kind in let long = is.ports in omega arith) switches all

heading_within : (n t : ℕ) (e : End) → t < n → heading t e < 2 * n
heading_within n t ends.Begin h = omega arith
heading_within n t ends.End h = omega arith

pub headings_within : (n long : ℕ) (switches : List Switch) → long ≡ 2 * n → All (IsSwitch n) switches → All (λ switch. All (λ end. heading_of end < long) switch.ports) switches
headings_within n long switches same all = All-weaker (IsSwitch n) (λ (switch : Switch). All (λ (end : TrackEnd). heading_of end < long) switch.ports)
    (λ switch is. All-weaker (λ (end : TrackEnd). end.track < n) (λ (end : TrackEnd). heading_of end < long) (λ end within. let bound = heading_within n end.track end.end within in omega arith) switch.ports is.joined) switches all

pub ends_within : (n rows : ℕ) (switches : List Switch) → rows ≡ n → All (IsSwitch n) switches → All (λ switch. All (λ end. end.track < rows) switch.ports) switches
ends_within n rows switches same all = All-weaker (IsSwitch n) (λ (switch : Switch). All (λ (end : TrackEnd). end.track < rows) switch.ports)
    (λ switch is. All-weaker (λ (end : TrackEnd). end.track < n) (λ (end : TrackEnd). end.track < rows) (λ end within. omega arith) switch.ports is.joined) switches all

pub ends_offset : (n firsts : ℕ) (switches : List Switch) → firsts ≡ n + 1 → All (IsSwitch n) switches → All (λ switch. All (λ end. end.track + 1 < firsts) switch.ports) switches
ends_offset n firsts switches same all = All-weaker (IsSwitch n) (λ (switch : Switch). All (λ (end : TrackEnd). end.track + 1 < firsts) switch.ports)
    (λ switch is. All-weaker (λ (end : TrackEnd). end.track < n) (λ (end : TrackEnd). end.track + 1 < firsts) (λ end within. omega arith) switch.ports is.joined) switches all

module _ (infra : Infra) (sound : IsInfra infra) (stands : List (List Stand)) (on : AreOnRows infra.detectors (length infra.tracks) stands)
    (pieces : List (List Piece)) (cut : ArePieceRows infra.tracks stands (length infra.tracks) pieces) where
  pub pieces_few : sum_by length pieces < 2 ^ 32
  pieces_few =
      let counts = sound.counts in
      let tracks = counts.tracks in
      let detectors = counts.detectors in
      let many = on.many in
      omega (arith, sum_few infra.tracks stands (length infra.tracks) pieces cut)

  some : (t : ℕ) → t < length pieces → 0 < length (pieces_of pieces t)
  some t h = row_some infra.tracks stands (length infra.tracks) pieces cut t (let long = cut.long in omega arith)

  module _ (firsts : List ℕ) (offsets : AreFirsts pieces firsts) where
    pub offsets_rise : IsStrictlyIncreasing firsts
    offsets_rise = firsts_rise pieces firsts offsets some

    pub last_total : get_or firsts (length infra.tracks) 0 ≡ sum_by length pieces
    last_total = ap (λ (n : ℕ). get_or firsts n 0) (sym cut.long) ∙ last_first pieces firsts offsets some

    pub all_within : AreWithin (sum_by length pieces) (stars firsts infra.switches)
    all_within = joins_within pieces firsts offsets some infra.switches (ends_within (length infra.tracks) (length pieces) infra.switches cut.long sound.switches)

    pub laid_out : (stops : List (List Stand)) → AreOnRows infra.buffer_stops (length infra.tracks) stops → (count : ℕ) (zones : List ℕ) (joints : List (Option Joint)) (junctions : List Junction) → AreZones (AreNamed (stars firsts infra.switches)) (sum_by length pieces) count zones
        → AreJoints infra.switches (length infra.switches) 0 joints → junctions ≡ map junction_of infra.switches → first_off infra ≡ None
        → IsGraph (record { infra = infra; stands = stands; stops = stops; pieces = pieces; count = count; zones = zones }) firsts joints junctions
    laid_out stops stopped count zones joints junctions zoned named kept within = record {
      sound = record {
        stands = on;
        stops = stopped;
        pieces = cut;
        zones = zones_joined pieces firsts offsets some infra.switches (ends_within (length infra.tracks) (length pieces) infra.switches cut.long sound.switches) count zones zoned;
        once = joints_once infra.switches joints named;
        within = within;
      };
      offsets = offsets;
      few = pieces_few;
      named = named;
      kept = kept;
    }

pub read_total : (firsts : List ℕ) (n k x total : ℕ) → x ≡ get_or firsts k x → k ≡ n → n < length firsts → get_or firsts n 0 ≡ total → x ≡ total
read_total firsts n k x total read same within is = read ∙ (ap (λ (m : ℕ). get_or firsts m x) same ∙ (get_or_default firsts n x 0 within ∙ is))
