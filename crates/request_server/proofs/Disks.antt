-- A journal's disk, opened and put back.
use Rattle.std.proofs.Common.{◌∙◌, ℕ, List, [], ◌∷◌, ◌++◌, Option, None, Some, Result, Ok, Err}
use Rattle.std.proofs.Common.{codes, inl, inr, sym}
use Rattle.outside_io.specs.declared.failures.Failed.{Failed}
use Rattle.outside_io.specs.Openings.{disk_at, Opening}
use Rattle.outside_io.specs.declared.disks.Disk.{Ghosts as Disks}
use Rattle.command_reports.specs.declared.exit_status.Status.TheVariants.{Opening as not_opened}
use Rattle.command_reports.specs.Scenes.{Scene}
use Rattle.client_lines.specs.Names.{Names}
use Rattle.served_clients.specs.ClientRuns.{AreMatched}
use Rattle.request_server.specs.PlannedClients.{client_calls, returned_of, streams_of}
use Rattle.served_clients.specs.StreamClients.{HadStreams, stream_calls}
use Rattle.command_line.specs.declared.client_words.clients.ClientWord.{ClientWord}
use Rattle.command_line.specs.Proofs.{proof_of}
use Rattle.command_line.specs.declared.proof_words.proofs.ProofWord.{ProofWord}
use Rattle.served_clients.proofs.StreamStops.{opens_moved_all}
use Rattle.command_reports.specs.Refusals.{IsTold, line_with}
use Rattle.command_reports.specs.Works.{KeepsTo, Misses}
use Rattle.command_reports.specs.declared.refusals.Refusal.{Refusal}
use Rattle.served_clients.specs.book.Ledgers.{Ledger}
use Rattle.outside_io.specs.declared.betweens.NoBetween.{NoBetween}
use Rattle.served_clients.specs.declared.plans.Plan.{Plan}
use Rattle.served_clients.specs.declared.plans.Session.{Session}
use Rattle.served_clients.specs.declared.serve_reports.ends.Ends.{Ends}
use Rattle.request_server.specs.Clienteles.{Clientele}
use Rattle.served_clients.specs.Files.{known_by}
use Rattle.served_clients.specs.RunGhosts.{RunGhosts}
use Rattle.served_clients.specs.ServedJournals.{IsFound}
use Rattle.served_clients.specs.Rounds.{DiskHalts, DiskRefuses}
use Rattle.served_clients.specs.declared.served_journals.files.Files.{Files}
use Rattle.served_clients.proofs.Remains.{remains_by}
use Rattle.served_clients.proofs.Halts.{halted_round, halted_sinks, halted_sources}
use Rattle.served_clients.proofs.JournalRounds.{disk_open, DiskIsRefused, exchanged, had_round}
use Rattle.served_clients.proofs.JournalRounds.{IsRound, other_stands, refused_round, round_only}
use Rattle.served_clients.proofs.JournalRounds.{same_sinks, same_sources, unopened_only}
use Rattle.served_clients.proofs.JournalRounds.{unopened_unready}
use Rattle.request_server.specs.ServeJournals.{DiskSays, Refuses, ServeStep}
use Rattle.request_server.specs.Serving.{BookSays, IsServing}

-- what is said of the disk of a book over which clients were served, or not
pub disk_by : {Src Snk Dsk L : Type 0} (ghosts : RunGhosts Src Snk Dsk L) (files : Files) (name : List ℕ) (clientele : Clientele L) (before after : Dsk) (found : Ledger Dsk) (old new : Scene Src Snk Dsk) (result : Result Ends Refusal)
    → IsFound ghosts.disk files before found → BookSays ghosts (known_by files) clientele found after old new result → DiskSays ghosts files name clientele before after old new result
disk_by ghosts files name clientele before after found old new (Ok ends) opened says = record { found = found; opened = opened; serving = says }
disk_by ghosts files name clientele before after found old new (Err refusal) opened says = inr (record { found = found; opened = opened; unserved = says })

pub unopened_step : {Src Snk Dsk L : Type 0} (ghosts : RunGhosts Src Snk Dsk L) (files : Files) (name : List ℕ) (clientele : Clientele L) (failed : Failed) (old new : Scene Src Snk Dsk) (refusal : Refusal) → DiskIsRefused name failed old new
    → IsTold not_opened (line_with (codes "open: ") name) refusal → ServeStep ghosts files name clientele old new (Err refusal)
unopened_step ghosts files name clientele failed old new refusal refused told = record {
  says = record {
    why = inl (record { unready = unopened_unready name failed old new refused; opened = refused.opened; same = refused.object.refused; rose = refused.rose; told = told });
    sources = refused.sources;
    sinks = refused.sinks;
  };
  only = unopened_only name (client_calls clientele.clients clientele.proofs) failed old new refusal refused;
}

missed_by : (call : Opening) (first next : List Opening) → Misses call first → Misses call next → Misses call (first ++ next)
missed_by call [] next here behind = behind
missed_by call (made ∷ first) next here behind = (here.0, missed_by call first next here.1 behind)

own_missed : (name : List ℕ) (client : ClientWord) (file : Option (List ℕ)) → Misses (disk_at name) (stream_calls client file)
own_missed name client None = ((λ same. cc), ((λ same. cc), tt))
own_missed name client (Some file) = ((λ same. cc), ((λ same. cc), ((λ same. cc), tt)))

pub disk_missed : (name : List ℕ) (clients : List ClientWord) (proofs : List ProofWord) → Misses (disk_at name) (client_calls clients proofs)
disk_missed name [] proofs = tt
disk_missed name (c ∷ cs) proofs =
    missed_by (disk_at name) (stream_calls c (proof_of proofs c.client)) (client_calls cs proofs) (own_missed name c (proof_of proofs c.client)) (disk_missed name cs proofs)

module _ {Src Snk Dsk L : Type 0} (name : List ℕ) (clientele : Clientele L) (before after : Dsk) (s0 s1 s2 s3 : Scene Src Snk Dsk) (round : IsRound name before after s0 s1 s2 s3) where
  abbrev calls : List Opening
  calls = client_calls clientele.clients clientele.proofs

  missed : Misses (disk_at name) calls
  missed = disk_missed name clientele.clients clientele.proofs

  had_around : (list : List ClientWord) (plans : List (Plan Src Snk NoBetween L)) (sessions : List (Session Src Snk L))
      → AreMatched (λ (client : ClientWord) (plan : Plan Src Snk NoBetween L) (session : Session Src Snk L). HadStreams s1 s2 client (proof_of clientele.proofs client.client) (streams_of plan) (returned_of session)) list plans sessions
      → AreMatched (λ (client : ClientWord) (plan : Plan Src Snk NoBetween L) (session : Session Src Snk L). HadStreams s0 s3 client (proof_of clientele.proofs client.client) (streams_of plan) (returned_of session)) list plans sessions
  had_around [] [] [] had = had
  had_around [] [] (q ∷ qs) had = absurd had
  had_around [] (p ∷ ps) [] had = absurd had
  had_around [] (p ∷ ps) (q ∷ qs) had = absurd had
  had_around (c ∷ cs) [] [] had = absurd had
  had_around (c ∷ cs) [] (q ∷ qs) had = absurd had
  had_around (c ∷ cs) (p ∷ ps) [] had = absurd had
  had_around (c ∷ cs) (p ∷ ps) (q ∷ qs) had = (had_round name before after s0 s1 s2 s3 round c (proof_of clientele.proofs c.client) (streams_of p) (returned_of q) had.0, had_around cs ps qs had.1)

  serving_around : (ghosts : RunGhosts Src Snk Dsk L) (known : Names) (found : Ledger Dsk) (ends : Ends) → IsServing ghosts known clientele found after s1 s2 ends
      → IsServing ghosts known clientele found after s0 s3 ends
  serving_around ghosts known found ends serving = record {
    opens = opens_moved_all (disk_at name) s1.standing s0.standing (λ call differs. other_stands name before after s0 s1 s2 s3 round call (λ e. differs (sym e))) calls missed serving.opens;
    quiet = round.quiet_still ∙ (serving.quiet ∙ round.quiet);
    left = serving.left;
    plans = serving.plans;
    sessions = serving.sessions;
    names = serving.names;
    given = serving.given;
    had = had_around clientele.clients serving.plans serving.sessions serving.had;
    served = serving.served;
    footing = serving.footing;
    closed = serving.closed;
    ends_are = serving.ends_are;
  }

  refused_step : (disk : Disks Dsk) (files : Files) (refusal : Refusal) → DiskRefuses disk files name before after s1 s2 refusal → Refuses disk files name calls s0 s3 refusal
  refused_step disk files refusal refuses = record {
    why = inr (inl (refused_round name before after s0 s1 s2 s3 round disk files refusal refuses));
    sources = same_sources name before after s0 s1 s2 s3 round refuses.same;
    sinks = same_sinks name before after s0 s1 s2 s3 round refuses.same;
  }

  halted_step : (disk : Disks Dsk) (files : Files) (refusal : Refusal) → DiskHalts disk files calls before after s1 s2 refusal → Refuses disk files name calls s0 s3 refusal
  halted_step disk files refusal halts = record {
    why = inr (inr (halted_round name calls before after s0 s1 s2 s3 round disk files refusal missed halts));
    sources = halted_sources name calls before after s0 s1 s2 s3 round disk files refusal missed halts;
    sinks = halted_sinks name calls before after s0 s1 s2 s3 round disk files refusal missed halts;
  }

  -- the step that serves, by what was said of the disk while it was out
  pub step_by : (ghosts : RunGhosts Src Snk Dsk L) (files : Files) (result : Result Ends Refusal) → DiskSays ghosts files name clientele before after s1 s2 result → KeepsTo calls s1 s2 result
      → ServeStep ghosts files name clientele s0 s3 result
  unfolding serving_around
  step_by ghosts files (Ok ends) says only = record {
    says = record {
      before = before;
      after = after;
      found = says.found;
      name_open = disk_open name before after s0 s1 s2 s3 round;
      exchanged = exchanged name before after s0 s1 s2 s3 round calls missed only.keeps;
      opened = says.opened;
      serving = serving_around ghosts (known_by files) says.found ends says.serving;
      remains = remains_by ghosts.disk files before after says.found says.serving.left says.opened says.serving.footing says.serving.closed;
    };
    only = round_only name before after s0 s1 s2 s3 round calls (Ok ends) only;
  }
  step_by ghosts files (Err refusal) (inl refuses) only = record { says = refused_step ghosts.disk files refusal refuses; only = round_only name before after s0 s1 s2 s3 round calls (Err refusal) only }
  step_by ghosts files (Err refusal) (inr halts) only = record { says = halted_step ghosts.disk files refusal halts; only = round_only name before after s0 s1 s2 s3 round calls (Err refusal) only }
