use Rattle.std.proofs.Common.{sym}
use Rattle.rail_types.proofs.Ascents.{climbs_is}
use Rattle.rail_types.proofs.flaws.stops_climb.Goals as goal

pub loop-stop-init : goal.loop-stop-init
loop-stop-init c = sym (climbs_is c.args.stops c.args.serves.now)
