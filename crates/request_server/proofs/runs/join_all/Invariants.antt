use Rattle.std.proofs.Common.{◌≡◌, ◌+◌, ◌*◌, ◌≤◌, All, List, length, reverse, vec_capacity}
use Rattle.served_clients.specs.gate.Passes.{view}
use Rattle.served_clients.specs.turns.Turns.{IsReady}
use Rattle.line_sessions.specs.Ends.{streams}
use Rattle.served_clients.specs.ClientRuns.{AreMatched}
use Rattle.served_clients.specs.Seats.{IsBack}
use Rattle.served_clients.specs.Talks.{Talk}
use Rattle.request_server.specs.Jobs.{IsDoneJob}
use Rattle.request_server.proofs.Matched.{Joining}
use Rattle.served_clients.specs.declared.client_seats.gates.TheConstants.{TURNS_OF_A_CLIENT}
use Rattle.request_server.proofs.runs.join_all.Given as goal

abbrev pub invariant-loop-job : goal.invariant-loop-job
invariant-loop-job g l = record {
  ready : IsReady l.shared.gate l.pass;
  share : (view l.pass).share + length l.jobs.items * TURNS_OF_A_CLIENT
      ≡ (view l.fn.pass).share + length l.fn.jobs.items * TURNS_OF_A_CLIENT;
  jobs : All (λ job. IsBack l.shared job.seat) l.jobs.items;
  room : length l.jobs.items + length l.sessions.items ≤ vec_capacity l.sessions;
  joined : (clients : _) (talks : List Talk)
      → AreMatched (IsDoneJob g.L.Rule l.shared (streams g.S.Source.left g.S.Source.faults g.T.Sink.held g.T.Sink.faults)) clients (reverse l.fn.jobs.items) talks
      → Joining g.L.Rule l.shared (streams g.S.Source.left g.S.Source.faults g.T.Sink.held g.T.Sink.faults) clients talks l.jobs.items l.sessions.items (view l.pass);
}

abbrev pub decreases-loop-job : goal.decreases-loop-job
decreases-loop-job g l = goal.left-loop-job g l
