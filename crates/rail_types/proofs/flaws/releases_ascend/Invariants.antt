use Rattle.std.proofs.Common.{◌≡◌, map, drop}
use Rattle.rail_types.specs.Flaws.{ascends}
use Rattle.rail_types.proofs.Ascents.{ascends_from}
use Rattle.rail_types.proofs.flaws.releases_ascend.Given as goal

-- what is left decides
abbrev pub invariant-loop-cell : goal.invariant-loop-cell
invariant-loop-cell l =
    ascends_from l.least_m l.length_m (map (λ cell. cell.release_m) (drop l.cell-index l.cells))
    ≡ ascends l.length_m (map (λ cell. cell.release_m) l.cells)
