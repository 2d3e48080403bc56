use Rattle.std.proofs.Common.{sym, map}
use Rattle.rail_types.proofs.Ascents.{ascends_is}
use Rattle.rail_types.proofs.flaws.releases_ascend.Goals as goal

pub loop-cell-init : goal.loop-cell-init
loop-cell-init c = sym (ascends_is c.args.length_m (map (λ cell. cell.release_m) c.args.cells.now))
