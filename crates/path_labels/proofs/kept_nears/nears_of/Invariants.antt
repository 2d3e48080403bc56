use Rattle.std.proofs.Common.{◌≡◌, map, take}
use Rattle.path_labels.specs.KeptNears.{near_kept}
use Rattle.path_labels.proofs.kept_nears.nears_of.Given as goal

abbrev pub invariant-loop-number : goal.invariant-loop-number
invariant-loop-number l = map (λ near. near.now) l.nears.items ≡ map (near_kept l.kept) (take l.number-index l.numbers)
