use Rattle.std.proofs.Common.{◌-◌, length}
use Rattle.std.specs.Prelude.{Contains}
use Rattle.tail_states.specs.Inside.{AreFound, AreFirstMoves, Grows}
use Rattle.tail_states.proofs.wanted.moves_of_wanted.Given as goal

abbrev pub invariant-loop-alloc : goal.invariant-loop-alloc
invariant-loop-alloc l = record {
  found : AreFound l.net l.request l.members;
  grown : Grows l.initial.members l.members;
  firsts : AreFirstMoves l.net l.request (Contains l.wanted) l.members l.moves.items;
}

abbrev pub decreases-loop-alloc : goal.decreases-loop-alloc
decreases-loop-alloc l = 65536 - length l.moves.items
