use Rattle.std.proofs.Common.{◌≡◌, All, map, take}
use Rattle.served_clients.specs.Gates.{IsNewcomer}
use Rattle.request_server.proofs.runs.newcomers_of.Given as goal

abbrev pub invariant-loop-plan : goal.invariant-loop-plan
invariant-loop-plan g l = record {
  names : map (λ n. n.client.name) l.newcomers.items ≡ map (λ p. p.name) (take l.plan-index l.plans);
  newcomers : All (λ n. IsNewcomer l.book.timetable l.book.entries n.client.name n) l.newcomers.items;
}
