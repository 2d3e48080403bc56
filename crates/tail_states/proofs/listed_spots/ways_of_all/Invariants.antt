use Rattle.std.proofs.Common.{◌-◌, length}
use Rattle.tail_states.specs.Inside.{Grows}
use Rattle.tail_states.specs.Spots.{AreFirstWays, AreSpotsFound}
use Rattle.tail_states.proofs.listed_spots.ways_of_all.Given as goal

abbrev pub invariant-loop-alloc : goal.invariant-loop-alloc
invariant-loop-alloc l = record {
  found : AreSpotsFound l.net l.train l.members;
  grown : Grows l.initial.members l.members;
  firsts : AreFirstWays l.net l.train l.members l.ways.items;
}

abbrev pub decreases-loop-alloc : goal.decreases-loop-alloc
decreases-loop-alloc l = 16384 - length l.ways.items
