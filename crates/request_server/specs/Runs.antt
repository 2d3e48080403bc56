-- Many clients that were served at once.
use Rattle.std.specs.Prelude.{◌≡◌, ℕ, List}
use Rattle.admission_rules.specs.declared.rules.Rule.{Ghosts as Rules}
use Rattle.client_lines.specs.Names.{Names}
use Rattle.admission_rules.specs.Ruled.{stand}
use Rattle.served_clients.specs.ClientRuns.{AreMatched, IsRun, told_own}
use Rattle.served_clients.specs.Seats.{IsDone}
use Rattle.served_clients.specs.Talks.{Talk}
use Rattle.served_clients.specs.declared.client_seats.seats.Seat.{Seat}
use Rattle.line_answers.specs.turns.declared.shared.Shared.{Shared}
use Rattle.line_sessions.specs.Ends.{Passes, Scene as SessionScene, Streams}
use Rattle.line_sessions.specs.Proofs.{is_wanted}
use Rattle.line_sessions.specs.declared.sessions.Ended.{Ended}
use Rattle.served_clients.specs.book.Ledgers.{Ledger}
use Rattle.rail_types.specs.declared.entries.Entry.{Entry}
use Rattle.served_clients.specs.declared.plans.Plan.{Plan}
use Rattle.served_clients.specs.declared.plans.Session.{Session}

-- One client was served at its seat: this passed in its session, whose end its streams show. It is
-- the client of the seat, by the rules that stood there. By what the pass of the seat has seen at
-- the end, each reply is what a beginning of the history gives, and the rules were told its own
-- entries that the replies print.
pub record IsSession {D Src Snk Btw L : Type 0} (kind : Rules L) (shared : Shared D)
    (streams : Streams Src Snk) (ended : Ended) (old new : SessionScene (Seat D Btw L) Src Snk)
    : Type 0 where
  pub talk : Talk
  pub name : talk.name ≡ old.desk.guest.client.name
  pub rules : talk.rules ≡ stand kind old.desk.rules.items
  pub proves : talk.proves ≡ is_wanted old.proofs
  pub passes : Passes streams ended talk.traffic
      old.source new.source old.sink new.sink old.proofs new.proofs
  pub done : IsDone kind shared new.desk talk

-- The client of this plan was served so: this passed in its session, whose end its
-- streams show. Proofs went along with its replies where it wants them. Its rules were
-- told its own entries: before its first line those of the history found, and behind the
-- session those of the history left.
pub record IsServed {Src Snk Btw L : Type 0} (kind : Rules L) (streams : Streams Src Snk)
    (found left : List Entry) (plan : Plan Src Snk Btw L) (session : Session Src Snk L)
    (talk : Talk) : Type 0 where
  pub name : session.name ≡ plan.name
  pub talk_name : talk.name ≡ plan.name
  pub proves : talk.proves ≡ is_wanted plan.proofs
  pub passes : Passes streams session.ended talk.traffic
      plan.source session.source plan.sink session.sink plan.proofs session.proofs
  pub begun : talk.rules ≡ told_own found plan.name (stand kind plan.rules.items)
  pub told : stand kind session.rules.items ≡ told_own left plan.name (stand kind plan.rules.items)

-- The clients of these plans were served, each in its session, and were told one history.
pub record WereServed {D Src Snk Btw L : Type 0} (kind : Rules L) (disk_faults : D → ℕ)
    (streams : Streams Src Snk) (known : Names) (found left : Ledger D)
    (plans : List (Plan Src Snk Btw L)) (sessions : List (Session Src Snk L)) : Type 0 where
  pub talks : List Talk
  pub served : AreMatched (IsServed kind streams found.entries left.entries) plans sessions talks
  pub run : IsRun disk_faults known found left talks
