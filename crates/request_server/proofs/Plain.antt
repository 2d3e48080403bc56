-- Clients that were served, told without what happens between their searches.
use Rattle.std.proofs.Common.{◌≡◌, ◌∙◌, ℕ, List, [], ◌∷◌, map, refl, ap}
use Rattle.admission_rules.specs.declared.rules.Rule.{Ghosts as Rules}
use Rattle.client_lines.specs.Names.{Names}
use Rattle.request_server.specs.PlannedClients.{returned_of, streams_of}
use Rattle.served_clients.specs.ClientRuns.{AreMatched}
use Rattle.served_clients.specs.Talks.{Talk}
use Rattle.served_clients.specs.StreamClients.{HadStreams}
use Rattle.command_line.specs.declared.client_words.clients.ClientWord.{ClientWord}
use Rattle.command_reports.specs.Scenes.{Scene}
use Rattle.line_sessions.specs.Ends.{Streams}
use Rattle.outside_io.specs.declared.betweens.NoBetween.{NoBetween}
use Rattle.served_clients.specs.book.Ledgers.{Ledger}
use Rattle.command_line.specs.Proofs.{proof_of}
use Rattle.command_line.specs.declared.proof_words.proofs.ProofWord.{ProofWord}
use Rattle.rail_types.specs.declared.entries.Entry.{Entry}
use Rattle.request_server.specs.Runs.{IsServed, WereServed}
use Rattle.served_clients.specs.declared.plans.Plan.{Plan}
use Rattle.served_clients.specs.declared.plans.Session.{Session}

-- a plan without what happens between searches
abbrev pub plain : {Src Snk Btw L : Type 0} → Plan Src Snk Btw L → Plan Src Snk NoBetween L
plain plan = record {
  name = plan.name;
  source = plan.source;
  sink = plan.sink;
  proofs = plan.proofs;
  between = record {};
  rules = plan.rules;
}

-- a part of the plans that is no other without it
pub parts_plain : {Src Snk Btw L P : Type 0} (f : Plan Src Snk Btw L → P) (g : Plan Src Snk NoBetween L → P) → ((plan : Plan Src Snk Btw L) → g (plain plan) ≡ f plan) → (plans : List (Plan Src Snk Btw L)) → map g (map plain plans) ≡ map f plans
parts_plain f g same [] = refl
parts_plain {P = P} f g same (plan ∷ plans) = ap (λ (part : P). part ∷ map g (map plain plans)) (same plan) ∙ ap (λ (parts : List P). f plan ∷ parts) (parts_plain f g same plans)

module _ {Src Snk Btw L : Type 0} (kind : Rules L) (streams : Streams Src Snk) (found left : List Entry) where
  served_plain_one : (plan : Plan Src Snk Btw L) (session : Session Src Snk L) (talk : Talk) → IsServed kind streams found left plan session talk → IsServed kind streams found left (plain plan) session talk
  served_plain_one plan session talk served = record {
    name = served.name;
    talk_name = served.talk_name;
    proves = served.proves;
    passes = served.passes;
    begun = served.begun;
    told = served.told;
  }

  all_plain : (plans : List (Plan Src Snk Btw L)) (sessions : List (Session Src Snk L)) (talks : List Talk) → AreMatched (IsServed kind streams found left) plans sessions talks → AreMatched (IsServed kind streams found left) (map plain plans) sessions talks
  all_plain [] [] [] all = all
  all_plain [] [] (t ∷ talks) all = absurd all
  all_plain [] (q ∷ sessions) [] all = absurd all
  all_plain [] (q ∷ sessions) (t ∷ talks) all = absurd all
  all_plain (p ∷ plans) [] [] all = absurd all
  all_plain (p ∷ plans) [] (t ∷ talks) all = absurd all
  all_plain (p ∷ plans) (q ∷ sessions) [] all = absurd all
  all_plain (p ∷ plans) (q ∷ sessions) (t ∷ talks) all = (served_plain_one p q t all.0, all_plain plans sessions talks all.1)

-- clients that were served, and their streams
pub served_plain : {D Src Snk Btw L : Type 0} (kind : Rules L) (disk_faults : D → ℕ) (streams : Streams Src Snk) (known : Names) (found left : Ledger D) (plans : List (Plan Src Snk Btw L)) (sessions : List (Session Src Snk L))
    → WereServed kind disk_faults streams known found left plans sessions → WereServed kind disk_faults streams known found left (map plain plans) sessions
served_plain kind disk_faults streams known found left plans sessions were = record {
  talks = were.talks;
  served = all_plain kind streams found.entries left.entries plans sessions were.talks were.served;
  run = were.run;
}

pub had_plain : {Src Snk Dsk Btw L : Type 0} (proofs : List ProofWord) (s0 s1 : Scene Src Snk Dsk) (clients : List ClientWord) (plans : List (Plan Src Snk Btw L)) (sessions : List (Session Src Snk L))
    → AreMatched (λ (client : ClientWord) (plan : Plan Src Snk Btw L) (session : Session Src Snk L). HadStreams s0 s1 client (proof_of proofs client.client) (streams_of plan) (returned_of session)) clients plans sessions
    → AreMatched (λ (client : ClientWord) (plan : Plan Src Snk NoBetween L) (session : Session Src Snk L). HadStreams s0 s1 client (proof_of proofs client.client) (streams_of plan) (returned_of session)) clients (map plain plans) sessions
had_plain proofs s0 s1 [] [] [] had = had
had_plain proofs s0 s1 [] [] (q ∷ qs) had = absurd had
had_plain proofs s0 s1 [] (p ∷ ps) [] had = absurd had
had_plain proofs s0 s1 [] (p ∷ ps) (q ∷ qs) had = absurd had
had_plain proofs s0 s1 (c ∷ cs) [] [] had = absurd had
had_plain proofs s0 s1 (c ∷ cs) [] (q ∷ qs) had = absurd had
had_plain proofs s0 s1 (c ∷ cs) (p ∷ ps) [] had = absurd had
had_plain proofs s0 s1 (c ∷ cs) (p ∷ ps) (q ∷ qs) had = (had.0, had_plain proofs s0 s1 cs ps qs had.1)
