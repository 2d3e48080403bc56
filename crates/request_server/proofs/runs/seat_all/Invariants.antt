use Rattle.std.proofs.Common.{◌≡◌, ◌+◌, ◌*◌, ◌≤◌, ◌++◌, All, length, map, reverse, vec_capacity}
use Rattle.served_clients.specs.gate.Passes.{view}
use Rattle.served_clients.specs.Gates.{IsHost, IsNewcomer}
use Rattle.served_clients.specs.Seats.{found_at}
use Rattle.served_clients.specs.turns.Turns.{timetable_at}
use Rattle.request_server.specs.Jobs.{begun, begun_of, IsReadyJob}
use Rattle.served_clients.specs.declared.client_seats.gates.TheConstants.{TURNS_OF_A_CLIENT}
use Rattle.request_server.proofs.runs.seat_all.Given as goal

abbrev pub invariant-loop-plan : goal.invariant-loop-plan
invariant-loop-plan g l = record {
  host : IsHost l.shared l.pass;
  share : (view l.pass).share ≡ length l.plans.items * TURNS_OF_A_CLIENT + 1;
  names : map (λ n. n.client.name) l.newcomers.items ≡ map (λ p. p.name) l.plans.items;
  newcomers : All (λ n. IsNewcomer (timetable_at l.shared.gate) (found_at l.shared.gate) n.client.name n) l.newcomers.items;
  jobs : All (IsReadyJob l.shared) l.jobs.items;
  room : length l.plans.items + length l.jobs.items ≤ vec_capacity l.jobs;
  count : length l.plans.items + length l.jobs.items ≡ length l.fn.plans.items;
  begun : map (begun_of g.L.Rule) l.jobs.items ++ reverse (map (begun g.L.Rule (found_at l.shared.gate)) l.plans.items)
      ≡ reverse (map (begun g.L.Rule (found_at l.shared.gate)) l.fn.plans.items);
}

abbrev pub decreases-loop-plan : goal.decreases-loop-plan
decreases-loop-plan g l = length l.plans.items
