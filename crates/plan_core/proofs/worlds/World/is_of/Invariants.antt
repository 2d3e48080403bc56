use Rattle.std.proofs.Common.{ℕ, ◌<◌}
use Rattle.plan_core.specs.Inside.{Agrees}
use Rattle.plan_core.proofs.worlds.World.is_of.Given as goal

abbrev pub invariant-loop-another : goal.invariant-loop-another
invariant-loop-another l = (other : ℕ) → other < l.another → Agrees l.self l.client l.owner other
