use Rattle.std.proofs.Common.{refl, ap, ◌∙◌}
use Rattle.std.specs.List.{list_any}
use Rattle.rail_types.specs.declared.infra_types.tracks.Part.{Part}
use Rattle.std.proofs.Common.{List}
use Rattle.track_graph.specs.Faults.{is_part_off}
use Rattle.track_graph.proofs.Offs.{point_found, point_missed}
use Rattle.track_graph.proofs.positions.off_point.Goals as goal

pub returns-then-has_part_off : goal.returns-then-has_part_off
returns-then-has_part_off c = point_found c.args.tracks.now c.args.points.now c.points.point-index c.point-item.result c.points-test.true c.point-item.is c.point-item.result.id refl c.has_part_off.result (c.has_part_off.ensures ∙ ap (λ (ps : List Part). list_any (is_part_off c.args.tracks.now) ps) c.as_slice.ensures) c.if-has_part_off.true c.points.invariant

pub points-preserved : goal.points-preserved
points-preserved c = point_missed c.args.tracks.now c.args.points.now c.points.point-index c.point-item.result c.points-test.true c.point-item.is c.has_part_off.result (c.has_part_off.ensures ∙ ap (λ (ps : List Part). list_any (is_part_off c.args.tracks.now) ps) c.as_slice.ensures) c.if-has_part_off.false c.points.invariant
