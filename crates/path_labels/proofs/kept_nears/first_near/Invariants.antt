use Rattle.std.proofs.Common.{◌≡◌}
use Rattle.std.specs.List.{AllWithin}
use Rattle.path_labels.proofs.kept_nears.first_near.Given as goal

abbrev pub invariant-loop-at : goal.invariant-loop-at
invariant-loop-at l = AllWithin (λ one. ¬ (one.blocks ≡ l.blocks)) l.kept 0 l.at
