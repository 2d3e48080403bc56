use Rattle.std.proofs.Common.{◌≡◌, ◌+◌, ◌*◌, ◌≤◌, ◌++◌, List, length, vec_capacity}
use Rattle.batch_pool.specs.Batches.{AreMatched}
use Rattle.batch_command.specs.Seating.{IsClerkOf}
use Rattle.batch_command.specs.declared.batch_server.members.Member.{Member}
use Rattle.served_clients.specs.gate.Passes.{view}
use Rattle.served_clients.specs.Gates.{IsHost, IsNewcomer}
use Rattle.served_clients.specs.Seats.{found_at}
use Rattle.served_clients.specs.turns.Turns.{timetable_at}
use Rattle.served_clients.specs.declared.client_seats.gates.TheConstants.{TURNS_OF_A_CLIENT}
use Rattle.batch_command.proofs.batch_server.seating.seat_all.Given as goal

abbrev pub invariant-loop-member : goal.invariant-loop-member
invariant-loop-member g l = record {
  host : IsHost l.shared l.pass;
  share : (view l.pass).share ≡ length l.members.items * TURNS_OF_A_CLIENT + 1;
  newcomers : AreMatched (λ member newcomer. IsNewcomer (timetable_at l.shared.gate) (found_at l.shared.gate) member.name newcomer) l.members.items l.newcomers.items;
  room : length l.members.items + length l.clerks.items ≤ vec_capacity l.clerks;
  seated : (front : List (Member g.row.B.Denot g.row.L.Denot)) × (l.fn.members.items ≡ front ++ l.members.items)
      × AreMatched (IsClerkOf g.L.Rule l.shared) front l.clerks.items;
}

abbrev pub decreases-loop-member : goal.decreases-loop-member
decreases-loop-member g l = length l.members.items
