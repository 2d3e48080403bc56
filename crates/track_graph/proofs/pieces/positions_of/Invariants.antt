use Rattle.std.proofs.Common.{◌≡◌, map, take}
use Rattle.track_graph.proofs.pieces.positions_of.Given as goal

abbrev pub invariant-stands : goal.invariant-stands
invariant-stands l = l.positions.items ≡ map (λ stand. stand.position) (take l.stand-index l.stands)
