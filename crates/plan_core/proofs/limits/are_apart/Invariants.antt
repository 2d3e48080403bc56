use Rattle.std.proofs.Common.{take, AllPairs}
use Rattle.rail_types.specs.Occupation.{EndsBefore}
use Rattle.plan_core.proofs.limits.are_apart.Given as goal

abbrev pub invariant-loop-at : goal.invariant-loop-at
invariant-loop-at l = AllPairs EndsBefore (take l.at l.claims)
