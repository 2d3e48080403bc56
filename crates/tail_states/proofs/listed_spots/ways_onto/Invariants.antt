use Rattle.std.proofs.Common.{take}
use Rattle.tail_states.specs.Inside.{Grows}
use Rattle.tail_states.specs.Spots.{AreSpotsFound, AreWaysOver}
use Rattle.tail_states.proofs.listed_spots.ways_onto.Given as goal

abbrev pub invariant-loop-block : goal.invariant-loop-block
invariant-loop-block l = record {
  found : AreSpotsFound l.net l.train l.members;
  grown : Grows l.initial.members l.members;
  over : AreWaysOver l.net l.train l.members l.spot (take l.block-index l.blocks) l.ways;
}
