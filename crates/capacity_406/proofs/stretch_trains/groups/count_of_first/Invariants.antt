use Rattle.std.proofs.Common.{take, All}
use Rattle.capacity_406.specs.InsideStretch.{IsOf}
use Rattle.capacity_406.proofs.stretch_trains.groups.count_of_first.Given as goal

-- the claims so far are the first one's owner's
abbrev pub invariant-loop-count : goal.invariant-loop-count
invariant-loop-count l = All (IsOf l.owner) (take l.count l.rest)
