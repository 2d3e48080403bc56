use Rattle.route_walk.proofs.Passing.{ArePassedTo}
use Rattle.route_walk.proofs.legs.legs_of.Given as goal

abbrev pub invariant-places : goal.invariant-places
invariant-places l = ArePassedTo l.infra l.graph l.route l.entry l.places l.index l.metres l.passed.items l.zones.items
