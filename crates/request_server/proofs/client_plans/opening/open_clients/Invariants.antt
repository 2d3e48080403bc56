use Rattle.std.proofs.Common.{◌≡◌, ◌≤◌, All, drop, length, map, take, vec_capacity}
use Rattle.request_server.specs.PlannedClients.{AreFit, client_loans, streams_of}
use Rattle.admission_rules.specs.Clients.{rules_named}
use Rattle.command_reports.specs.Scenes.{scene}
use Rattle.served_clients.specs.Lending.{AreOut}
use Rattle.request_server.proofs.client_plans.opening.open_clients.Given as goal

abbrev pub invariant-loop-client : goal.invariant-loop-client
invariant-loop-client g l = record {
  out : AreOut (client_loans (take l.client-index l.clients) l.proofs (map streams_of l.plans.items)) (scene g.O.Outside l.fn.outside) (scene g.O.Outside l.outside);
  fit : AreFit (take l.client-index l.clients) l.proofs (map streams_of l.plans.items);
  names : map (λ plan. plan.name) l.plans.items ≡ map (λ client. client.client) (take l.client-index l.clients);
  rules : map (λ plan. plan.rules.items) l.plans.items ≡ map (λ client. rules_named client.client l.fn.rules) (take l.client-index l.clients);
  left : All (λ client. rules_named client.client l.rules ≡ rules_named client.client l.fn.rules) (drop l.client-index l.clients);
  count : length l.plans.items ≡ l.client-index;
  room : length l.clients ≤ vec_capacity l.plans;
}
