use Rattle.std.proofs.Common.{length, map}
use Rattle.command_reports.specs.Scenes.{scene}
use Rattle.request_server.specs.PlannedClients.{returned_of}
use Rattle.request_server.proofs.Comings.{Returning}
use Rattle.request_server.proofs.client_plans.returning.put_back_sessions.Given as goal

abbrev pub invariant-loop-session : goal.invariant-loop-session
invariant-loop-session g l = Returning l.clients l.proofs (map returned_of l.fn.sessions.items) (map returned_of l.sessions.items) (scene g.O.Outside l.fn.outside) (scene g.O.Outside l.outside)

abbrev pub decreases-loop-session : goal.decreases-loop-session
decreases-loop-session g l = length l.sessions.items
