use Rattle.std.proofs.Common.{rules}
use Rattle.route_walk.proofs.Passing.{short_step}
use Rattle.route_walk.proofs.legs.metres_of.Goals as goal

pub overflow_add-metres : goal.overflow_add-metres
overflow_add-metres c =
    let short = short_step _ c.args.places.now c.places.place-index c.places.metres c.length_m-metres.result c.requires.short c.requires.few c.places-test.true c.places.invariant c.length_m-metres.ensures in
    search rules
