use Rattle.std.proofs.Common.{take}
use Rattle.plan_core.specs.Runs.{Runs}
use Rattle.plan_core.proofs.worlds.World.run.Given as goal

abbrev pub invariant-loop-event : goal.invariant-loop-event
invariant-loop-event l = Runs l.fn.self (take l.event-index l.events) l.self
