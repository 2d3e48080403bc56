use Rattle.std.proofs.Common.{length}
use Rattle.capacity_406.proofs.Grouping.{IsGrouping}
use Rattle.capacity_406.proofs.stretch_trains.groups.group.Given as goal

-- the claims so far are gathered
abbrev pub invariant-loop-rest : goal.invariant-loop-rest
invariant-loop-rest l = IsGrouping l.stretch l.taken l.rest l.standing.items

abbrev pub decreases-loop-rest : goal.decreases-loop-rest
decreases-loop-rest l = length l.rest
