use Rattle.std.proofs.Common.{◌≡◌, map, take}
use Rattle.route_walk.specs.Legs.{stretch_of}
use Rattle.route_walk.proofs.legs.stretches_of.Given as goal

abbrev pub invariant-places : goal.invariant-places
invariant-places l = l.stretches.items ≡ map stretch_of (take l.place-index l.places)
