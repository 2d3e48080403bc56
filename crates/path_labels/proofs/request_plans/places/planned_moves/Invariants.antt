use Rattle.std.proofs.Common.{◌≡◌, map, take}
use Rattle.path_labels.specs.Plans.{move_in}
use Rattle.path_labels.proofs.request_plans.places.planned_moves.Given as goal

abbrev pub invariant-loop-one : goal.invariant-loop-one
invariant-loop-one l = l.planned ≡ map (move_in l.net l.settings l.request l.place) (take l.one-index l.moves)
