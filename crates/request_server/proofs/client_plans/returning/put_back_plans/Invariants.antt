use Rattle.std.proofs.Common.{length, map}
use Rattle.command_reports.specs.Scenes.{scene}
use Rattle.request_server.specs.PlannedClients.{streams_of}
use Rattle.request_server.proofs.Comings.{Returning}
use Rattle.request_server.proofs.client_plans.returning.put_back_plans.Given as goal

abbrev pub invariant-loop-plan : goal.invariant-loop-plan
invariant-loop-plan g l = Returning l.clients l.proofs (map streams_of l.fn.plans.items) (map streams_of l.plans.items) (scene g.O.Outside l.fn.outside) (scene g.O.Outside l.outside)

abbrev pub decreases-loop-plan : goal.decreases-loop-plan
decreases-loop-plan g l = length l.plans.items
