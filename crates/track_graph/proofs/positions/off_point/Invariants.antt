use Rattle.std.proofs.Common.{◌≡◌, find, drop}
use Rattle.std.specs.List.{flat_map}
use Rattle.track_graph.specs.Faults.{is_off, parts_at}
use Rattle.track_graph.proofs.positions.off_point.Given as goal

abbrev pub invariant-points : goal.invariant-points
invariant-points l = find (is_off l.tracks) (flat_map parts_at (drop l.point-index l.points)) ≡ find (is_off l.tracks) (flat_map parts_at l.points)
