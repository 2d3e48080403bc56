-- *inside*: clients at their seats, before and after they are served.
use Rattle.std.specs.Prelude.{◌≡◌, ℕ, List}
use Rattle.admission_rules.specs.declared.rules.Rule.{Ghosts as Rules}
use Rattle.served_clients.specs.gate.Passes.{view}
use Rattle.admission_rules.specs.Ruled.{Ruled, stand}
use Rattle.admission_rules.specs.Told.{told_at}
use Rattle.served_clients.specs.ClientRuns.{told_own}
use Rattle.served_clients.specs.Seats.{AnswersAt, IsDone, IsSeated, IsTaken}
use Rattle.served_clients.specs.Talks.{printed, Talk}
use Rattle.line_answers.specs.turns.declared.shared.Shared.{Shared}
use Rattle.line_sessions.specs.Ends.{Ends, Passes, scene, Streams}
use Rattle.line_sessions.specs.Proofs.{is_wanted}
use Rattle.line_sessions.specs.declared.proofs.Proofs.{Proofs}
use Rattle.rail_types.specs.declared.entries.Entry.{Entry}
use Rattle.request_server.specs.declared.jobs.Job.{Job}
use Rattle.served_clients.specs.declared.plans.Plan.{Plan}
use Rattle.served_clients.specs.declared.plans.Session.{Session}

-- a client whose rules were told its entries of the history found: its name, its streams, where its
-- proofs go, what happens between its searches, and its rules as they stand
pub record Begun (Src Snk Btw : Type 0) : Type 0 where
  pub name : List ℕ
  pub source : Src
  pub sink : Snk
  pub proofs : Proofs Snk
  pub between : Btw
  pub rules : List Ruled

-- the client of this plan, once its rules were told its entries of the history found
abbrev pub begun : {Src Snk Btw L : Type 0} → Rules L → List Entry → Plan Src Snk Btw L
    → Begun Src Snk Btw
begun kind found plan =
    record {
      name = plan.name;
      source = plan.source;
      sink = plan.sink;
      proofs = plan.proofs;
      between = plan.between;
      rules = told_own found plan.name (stand kind plan.rules.items);
    }

-- the client of this job that is not served yet
abbrev pub begun_of : {D Src Snk Btw L : Type 0} → Rules L → Job D Src Snk Btw L
    → Begun Src Snk Btw
begun_of kind job =
    record {
      name = job.name;
      source = job.source;
      sink = job.sink;
      proofs = job.proofs;
      between = job.seat.guest.between;
      rules = stand kind job.seat.rules.items;
    }

-- the session of this job
abbrev pub session_of : {D Src Snk Btw L : Type 0} → Job D Src Snk Btw L → Session Src Snk L
session_of job =
    record {
      name = job.name;
      source = job.source;
      sink = job.sink;
      proofs = job.proofs;
      ended = job.ended;
      rules = job.seat.rules;
    }

-- the client may be served
pub record IsReadyJob {D Src Snk Btw L : Type 0} (shared : Shared D) (job : Job D Src Snk Btw L)
    : Type 0 where
  pub taken : IsTaken shared job.seat
  pub proves : job.seat.guest.proves ≡ is_wanted job.proofs
  pub name : job.seat.guest.client.name ≡ job.name

-- the client's lines were answered by its seat
pub record WasServed {D Src Snk Btw L : Type 0} (kind : Rules L) (streams : Streams Src Snk)
    (old new : Job D Src Snk Btw L) : Type 0 where
  pub seated : IsSeated new.seat
  pub name : new.name ≡ old.name
  pub ends : Ends (AnswersAt kind) streams new.ended
      (scene old.seat old.source old.sink old.proofs)
      (scene new.seat new.source new.sink new.proofs)

-- this passed in the session of that client, whose end its streams show; its rules were told the
-- entries that its replies print, by a history
pub record HasPassed {Src Snk Btw L : Type 0} (kind : Rules L) (streams : Streams Src Snk)
    (history : List Entry) (client : Begun Src Snk Btw) (session : Session Src Snk L) (talk : Talk)
    : Type 0 where
  pub name : session.name ≡ client.name
  pub talk_name : talk.name ≡ client.name
  pub rules : talk.rules ≡ client.rules
  pub proves : talk.proves ≡ is_wanted client.proofs
  pub passes : Passes streams session.ended talk.traffic
      client.source session.source client.sink session.sink client.proofs session.proofs
  pub told : stand kind session.rules.items
      ≡ told_at history (printed talk.traffic.told) talk.rules

-- what a client's pass keeps of a session in which this passed
pub record IsDoneJob {D Src Snk Btw L : Type 0} (kind : Rules L) (shared : Shared D)
    (streams : Streams Src Snk) (client : Begun Src Snk Btw) (job : Job D Src Snk Btw L)
    (talk : Talk) : Type 0 where
  pub passed : HasPassed kind streams (view job.seat.guest.pass).seen client (session_of job) talk
  pub done : IsDone kind shared job.seat talk
