use Rattle.std.proofs.Common.{◌≡◌, map, find, drop}
use Rattle.track_graph.specs.Faults.{is_off, placed_at}
use Rattle.track_graph.proofs.positions.off_placed.Given as goal

abbrev pub invariant-placed : goal.invariant-placed
invariant-placed l = find (is_off l.tracks) (map placed_at (drop l.one-index l.placed)) ≡ find (is_off l.tracks) (map placed_at l.placed)
