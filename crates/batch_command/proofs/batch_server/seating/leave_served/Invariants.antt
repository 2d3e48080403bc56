use Rattle.std.proofs.Common.{◌≡◌, ◌+◌, ◌*◌, ◌≤◌, ◌++◌, All, List, length, map, vec_capacity}
use Rattle.batch_pool.specs.declared.workers.Served.{Served}
use Rattle.batch_command.specs.Seating.{HaveLeft, worked_of}
use Rattle.batch_command.specs.declared.batch_server.clerks.Clerk.{Clerk}
use Rattle.served_clients.specs.gate.Passes.{view}
use Rattle.served_clients.specs.Seats.{IsBack}
use Rattle.served_clients.specs.turns.Turns.{IsReady}
use Rattle.served_clients.specs.lines.declared.reply_texts.replies.Reply.{Reply}
use Rattle.served_clients.specs.declared.client_seats.gates.TheConstants.{TURNS_OF_A_CLIENT}
use Rattle.batch_command.proofs.batch_server.seating.leave_served.Given as goal

abbrev pub invariant-loop-back : goal.invariant-loop-back
invariant-loop-back g l = record {
  ready : IsReady l.shared.gate l.pass;
  share : (view l.pass).share + length l.served.items * TURNS_OF_A_CLIENT ≡ (view l.fn.pass).share + length l.fn.served.items * TURNS_OF_A_CLIENT;
  back : All (λ one. IsBack l.shared one.worker.seat) l.served.items;
  room : length l.served.items + length l.worked.items ≤ vec_capacity l.worked;
  space : length l.served.items + length l.parts.items ≤ vec_capacity l.parts;
  left : (front : List (Served (Clerk g.row.D.Denot g.row.B.Denot g.row.L.Denot) Reply)) × (l.fn.served.items ≡ front ++ l.served.items)
      × (l.worked.items ≡ map (λ one. worked_of one.worker) front) × (l.parts.items ≡ map (λ one. one.answers) front)
      × HaveLeft g.L.Rule l.shared (map (λ one. one.worker) front) (view l.pass);
}

abbrev pub decreases-loop-back : goal.decreases-loop-back
decreases-loop-back g l = length l.served.items
