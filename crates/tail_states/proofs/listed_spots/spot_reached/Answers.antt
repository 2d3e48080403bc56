use Rattle.tail_states.proofs.Spotting.{spot_behind}
use Rattle.tail_states.proofs.listed_spots.spot_reached.Goals as goal

pub returns-clause-is : goal.returns-clause-is
returns-clause-is c =
    let after = c.in_ok-after.ensures in
    spot_behind c.args.net.now c.args.train.now c.args.spot.now c.args.step c.in_ok-after.after c.without_stops.result c.requires.spot c.requires.step
    after.value after.tail after.gone after.entered c.without_stops.ensures
