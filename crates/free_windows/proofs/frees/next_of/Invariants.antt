use Rattle.free_windows.proofs.Zones.{IsRest}
use Rattle.free_windows.proofs.frees.next_of.Given as goal

abbrev pub invariant-loop-number : goal.invariant-loop-number
invariant-loop-number l = IsRest l.kept.claims l.piece l.within l.rest l.number
