use Rattle.std.proofs.Common.{◌≡◌, map, take}
use Rattle.stair_pieces.proofs.claims.standing.Given as goal

abbrev pub invariant-loop-passage : goal.invariant-loop-passage
invariant-loop-passage l = l.zones.items ≡ map (λ passage. passage.zone) (take l.passage-index l.passage-items)
