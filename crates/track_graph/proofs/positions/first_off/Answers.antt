use Rattle.std.proofs.Common.{map, sym}
use Rattle.std.specs.List.{filter_map, flat_map}
use Rattle.std.specs.Borrow.{Bor}
use Rattle.rail_types.specs.declared.names.Name.{Name}
use Rattle.rail_types.specs.declared.infra_types.signals.Signal.{Signal}
use Rattle.track_graph.specs.Faults.{is_off, kept_at, parts_at, placed_at}
use Rattle.track_graph.proofs.Offs.{off_first, off_second, off_third, off_fourth}
use Rattle.track_graph.proofs.positions.first_off.Goals as goal

pub returns-then-is_some : goal.returns-then-is_some
returns-then-is_some c = off_first (is_off c.args.infra.now.tracks) (map placed_at c.args.infra.now.detectors) (map placed_at c.args.infra.now.buffer_stops) (filter_map (λ (signal : Signal). kept_at signal.id signal.bal) c.args.infra.now.signals) (flat_map parts_at c.args.infra.now.points) (λ (name : Bor Name). name.now) c.off_placed-detector.result (rw (c.as_slice-tracks.ensures, c.as_slice.ensures) at c.off_placed-detector.ensures) (sym c.if-is_some.ensures)

pub returns-then-is_some-2 : goal.returns-then-is_some-2
returns-then-is_some-2 c = off_second (is_off c.args.infra.now.tracks) (map placed_at c.args.infra.now.detectors) (map placed_at c.args.infra.now.buffer_stops) (filter_map (λ (signal : Signal). kept_at signal.id signal.bal) c.args.infra.now.signals) (flat_map parts_at c.args.infra.now.points) (λ (name : Bor Name). name.now) c.off_placed-detector.result c.off_placed-stop.result (rw (c.as_slice-tracks.ensures, c.as_slice.ensures) at c.off_placed-detector.ensures) (sym c.if-is_some.ensures) (rw (c.as_slice-tracks.ensures, c.as_slice-2.ensures) at c.off_placed-stop.ensures) (sym c.if-is_some-2.ensures)

pub returns-then-is_some-3 : goal.returns-then-is_some-3
returns-then-is_some-3 c = off_third (is_off c.args.infra.now.tracks) (map placed_at c.args.infra.now.detectors) (map placed_at c.args.infra.now.buffer_stops) (filter_map (λ (signal : Signal). kept_at signal.id signal.bal) c.args.infra.now.signals) (flat_map parts_at c.args.infra.now.points) (λ (name : Bor Name). name.now) c.off_placed-detector.result c.off_placed-stop.result c.off_signal-signal.result (rw (c.as_slice-tracks.ensures, c.as_slice.ensures) at c.off_placed-detector.ensures) (sym c.if-is_some.ensures) (rw (c.as_slice-tracks.ensures, c.as_slice-2.ensures) at c.off_placed-stop.ensures) (sym c.if-is_some-2.ensures) (rw (c.as_slice-tracks.ensures, c.as_slice-3.ensures) at c.off_signal-signal.ensures) (sym c.if-is_some-3.ensures)

pub returns : goal.returns
returns c = off_fourth (is_off c.args.infra.now.tracks) (map placed_at c.args.infra.now.detectors) (map placed_at c.args.infra.now.buffer_stops) (filter_map (λ (signal : Signal). kept_at signal.id signal.bal) c.args.infra.now.signals) (flat_map parts_at c.args.infra.now.points) (λ (name : Bor Name). name.now) c.off_placed-detector.result c.off_placed-stop.result c.off_signal-signal.result c.off_point.result (rw (c.as_slice-tracks.ensures, c.as_slice.ensures) at c.off_placed-detector.ensures) (sym c.if-is_some.ensures) (rw (c.as_slice-tracks.ensures, c.as_slice-2.ensures) at c.off_placed-stop.ensures) (sym c.if-is_some-2.ensures) (rw (c.as_slice-tracks.ensures, c.as_slice-3.ensures) at c.off_signal-signal.ensures) (sym c.if-is_some-3.ensures) (rw (c.as_slice-tracks.ensures, c.as_slice-4.ensures) at c.off_point.ensures)
