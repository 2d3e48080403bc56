use Rattle.tail_states.specs.Spots.{AreSpotsFound, HoldStarts}
use Rattle.tail_states.proofs.listed_spots.add_starts.Given as goal

abbrev pub invariant-loop-number : goal.invariant-loop-number
invariant-loop-number l = record {
  found : AreSpotsFound l.net l.train l.members;
  starts : HoldStarts l.net l.train l.number l.members;
}
