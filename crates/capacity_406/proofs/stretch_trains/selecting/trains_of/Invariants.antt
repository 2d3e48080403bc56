use Rattle.std.proofs.Common.{◌≡◌, map, take}
use Rattle.capacity_406.specs.InsideStretch.{train_of}
use Rattle.capacity_406.proofs.stretch_trains.selecting.trains_of.Given as goal

abbrev pub invariant-loop-one : goal.invariant-loop-one
invariant-loop-one l = l.trains.items ≡ map train_of (take l.one-index l.standing)
