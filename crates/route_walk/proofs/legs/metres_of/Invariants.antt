use Rattle.std.proofs.Common.{◌≡◌, take}
use Rattle.std.specs.List.{sum_by}
use Rattle.route_walk.specs.Legs.{length_m}
use Rattle.route_walk.proofs.legs.metres_of.Given as goal

abbrev pub invariant-places : goal.invariant-places
invariant-places l = l.metres ≡ sum_by length_m (take l.place-index l.places)
