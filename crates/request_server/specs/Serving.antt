-- What clients that are served over a journal come to.
use Rattle.std.specs.Prelude.{◌≡◌, All, List, map, Result, Ok, Err}
use Rattle.client_lines.specs.Names.{Names}
use Rattle.admission_rules.specs.Clients.{rules_named}
use Rattle.request_server.specs.PlannedClients.{client_calls, returned_of, streams_of}
use Rattle.served_clients.specs.StreamClients.{HadStreams}
use Rattle.served_clients.specs.Refusing.{IsOpen}
use Rattle.command_line.specs.Proofs.{proof_of}
use Rattle.command_reports.specs.declared.refusals.Refusal.{Refusal}
use Rattle.command_reports.specs.Scenes.{Scene}
use Rattle.line_sessions.specs.Ends.{streams, Streams}
use Rattle.outside_io.specs.declared.sinks.Sink.{Ghosts as Sinks}
use Rattle.outside_io.specs.declared.sources.Source.{Ghosts as Sources}
use Rattle.served_clients.specs.book.Footings.{footing_of}
use Rattle.served_clients.specs.book.Ledgers.{Ledger}
use Rattle.served_clients.specs.ClientRuns.{AreMatched}
use Rattle.request_server.specs.Clienteles.{Clientele}
use Rattle.served_clients.specs.RunGhosts.{RunGhosts}
use Rattle.request_server.specs.Runs.{WereServed}
use Rattle.outside_io.specs.declared.betweens.NoBetween.{NoBetween}
use Rattle.served_clients.specs.declared.plans.Plan.{Plan}
use Rattle.served_clients.specs.declared.plans.Session.{Session}
use Rattle.served_clients.specs.Ends.{IsEnds}
use Rattle.served_clients.specs.declared.serve_reports.ends.Ends.{Ends}
use Rattle.served_clients.specs.ServedJournals.{IsClosed}
use Rattle.served_clients.specs.Rounds.{IsUnserved}

-- what is told of sources and sinks
abbrev pub streams_by : {Src Snk : Type 0} → Sources Src → Sinks Snk → Streams Src Snk
streams_by source sink = streams source.left source.faults sink.held sink.faults

-- The clients were served over the book that was found: no name of theirs is told not to be ready,
-- and each was served with the streams under its names and by its rules, all by one history, that
-- of the book that is left, which is kept on the disk handed back. Proofs go along with the replies
-- of a client where one of the proofs names it, into the file of the first that does. The rules of
-- a client are those in the elements with its name, in order. These are the ends of their sessions.
-- The plans are told without what happens between searches, on which nothing that is told depends.
pub record IsServing {Src Snk Dsk L : Type 0} (ghosts : RunGhosts Src Snk Dsk L) (known : Names)
    (clientele : Clientele L) (found : Ledger Dsk) (after : Dsk) (old new : Scene Src Snk Dsk)
    (ends : Ends) : Type 0 where
  pub left : Ledger Dsk
  pub plans : List (Plan Src Snk NoBetween L)
  pub sessions : List (Session Src Snk L)
  pub opens : All (IsOpen old.standing) (client_calls clientele.clients clientele.proofs)
  pub quiet : new.faults ≡ old.faults
  pub names : map (λ plan. plan.name) plans ≡ map (λ client. client.client) clientele.clients
  pub given : map (λ plan. plan.rules.items) plans
      ≡ map (λ client. rules_named client.client clientele.rules) clientele.clients
  pub had : AreMatched
      (λ client plan session. HadStreams old new client (proof_of clientele.proofs client.client)
      (streams_of plan) (returned_of session)) clientele.clients plans sessions
  pub served : WereServed ghosts.rule ghosts.disk.faults
      (streams_by ghosts.source ghosts.sink) known found left plans sessions
  pub footing : footing_of left ≡ footing_of found
  pub closed : IsClosed ghosts.disk left after
  pub ends_are : IsEnds ghosts.rule sessions ends

-- what is said of a book over which clients are served
abbrev pub BookSays : {Src Snk Dsk L : Type 0} → RunGhosts Src Snk Dsk L → Names → Clientele L
    → Ledger Dsk → Dsk → Scene Src Snk Dsk → Scene Src Snk Dsk → Result Ends Refusal → Type 0
BookSays ghosts known clientele found after old new (Ok ends) =
    IsServing ghosts known clientele found after old new ends
BookSays ghosts known clientele found after old new (Err refusal) =
    IsUnserved (client_calls clientele.clients clientele.proofs) found after old new refusal
