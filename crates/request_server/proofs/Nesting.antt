-- Clients served over a book, and their streams.
use Rattle.std.proofs.Common.{◌≡◌, ◌∙◌, ℕ, List, [], ◌∷◌, All, Option, None, Some, map, take, Ok}
use Rattle.std.proofs.Common.{inr, refl, sym, ap, subst}
use Rattle.std.proofs.lemmas.List.{append-nil}
use Rattle.outside_io.specs.Openings.{Opening, Opens as CallsOf}
use Rattle.command_reports.specs.Scenes.{Scene}
use Rattle.command_reports.specs.Works.{KeepsTo}
use Rattle.command_reports.specs.declared.refusals.Refusal.{Refusal}
use Rattle.command_reports.specs.declared.refusals.Refusal.TheVariants.{Memory}
use Rattle.request_server.specs.PlannedClients.{AreClients, AreFit, client_calls, client_loans}
use Rattle.request_server.specs.PlannedClients.{returned_of, sink_in, streams_of}
use Rattle.request_server.proofs.PlanLoans.{loan_calls}
use Rattle.request_server.proofs.PlanRounds.{all_keep, AllKeep, matched_parts}
use Rattle.served_clients.specs.StreamClients.{HadStreams, IsFit}
use Rattle.served_clients.specs.Lending.{AreIn, AreOut, Loan}
use Rattle.served_clients.specs.Refusing.{IsOpen, IsStopped}
use Rattle.served_clients.specs.declared.client_streams.streams.ClientStreams.{ClientStreams}
use Rattle.served_clients.proofs.StreamLists.{front_taken}
use Rattle.served_clients.proofs.StreamLoans.{as_before, in_calls, in_quiet, nested_same, out_calls}
use Rattle.served_clients.proofs.StreamLoans.{out_quiet}
use Rattle.served_clients.proofs.StreamStops.{outs_open}
use Rattle.served_clients.proofs.Uses.{Apart, apart_of}
use Rattle.command_line.specs.declared.client_words.clients.ClientWord.{ClientWord}
use Rattle.line_sessions.specs.Proofs.{is_wanted}
use Rattle.line_sessions.specs.declared.proofs.Proofs.{Proofs}
use Rattle.line_sessions.specs.declared.proofs.Proofs.TheVariants.{Unwanted, To}
use Rattle.served_clients.specs.book.Ledgers.{Ledger}
use Rattle.command_line.specs.Proofs.{proof_of}
use Rattle.command_line.specs.declared.proof_words.proofs.ProofWord.{ProofWord}
use Rattle.served_clients.specs.ClientRuns.{AreMatched}
use Rattle.served_clients.specs.declared.plans.Plan.{Plan}
use Rattle.served_clients.specs.declared.plans.Session.{Session}
use Rattle.served_clients.specs.declared.serve_reports.ends.Ends.{Ends}
use Rattle.served_clients.proofs.Halts.{same_keeps, Unserved, unserved_at_once, unserved_stopped}

-- memory was wanted at once
pub served_not : {Src Snk Dsk : Type 0} (calls : List Opening) (found : Ledger Dsk) (after : Dsk) (s : Scene Src Snk Dsk) → after ≡ found.disk → Unserved Ends calls found after s s Memory
served_not calls found after s disk = unserved_at_once Ends calls found after s disk

-- a name could not be opened, or memory was wanted
pub served_stopped : {Src Snk Dsk : Type 0} (calls : List Opening) (found : Ledger Dsk) (after : Dsk) (s0 s1 : Scene Src Snk Dsk) (refusal : Refusal) → after ≡ found.disk → IsStopped calls s0 s1 refusal → Unserved Ends calls found after s0 s1 refusal
served_stopped calls found after s0 s1 refusal disk stopped = unserved_stopped Ends calls found after s0 s1 refusal disk stopped

module _ {Src Snk Dsk : Type 0} (clients : List ClientWord) (proofs : List ProofWord) (streams : List (ClientStreams Src Snk)) (s0 s1 : Scene Src Snk Dsk) (fit : AreFit clients proofs streams) (outs : AreOut (client_loans clients proofs streams) s0 s1) where
  -- the calls that were made
  pub calls_made : CallsOf (client_calls clients proofs) s0.opened s1.opened
  calls_made = subst (λ (calls : List Opening). CallsOf calls s0.opened s1.opened) (loan_calls clients proofs streams fit) (out_calls (client_loans clients proofs streams) s0 s1 outs)

  -- they were not told to fail
  pub calls_open : Apart (client_calls clients proofs) → All (IsOpen s0.standing) (client_calls clients proofs)
  calls_open apart =
      let same = loan_calls clients proofs streams fit in
      subst (λ (calls : List Opening). All (IsOpen s0.standing) calls) same (outs_open (client_loans clients proofs streams) s0 s1 (subst Apart (sym same) apart) outs)

-- memory was wanted for the clients, and their streams were put back as they were
pub unserved_again : {Src Snk Dsk Btw L : Type 0} (clients : List ClientWord) (proofs : List ProofWord) (found : Ledger Dsk) (after : Dsk) (plans : List (Plan Src Snk Btw L)) (s0 s1 s2 : Scene Src Snk Dsk) → after ≡ found.disk → AreFit clients proofs (map streams_of plans)
    → AreOut (client_loans clients proofs (map streams_of plans)) s0 s1 → AreIn (client_loans clients proofs (map streams_of plans)) s1 s2 → Unserved Ends (client_calls clients proofs) found after s0 s2 Memory
unserved_again {Src} {Snk} {Dsk} clients proofs found after plans s0 s1 s2 disk fit outs ins =
    let streams : List (ClientStreams Src Snk) = map streams_of plans in
    let loans : List (Loan Src Snk) = client_loans clients proofs streams in
    let same = nested_same loans s0 s1 s1 s2 outs (as_before s1) ins in
    let calls = client_calls clients proofs in
    let taken = front_taken calls [] in
    let whole : take taken.0 calls ≡ calls = ap (take taken.0) (sym (append-nil calls)) ∙ taken.1 in
    let opened : CallsOf calls s0.opened s2.opened = rw (in_calls loans s1 s2 ins) (calls_made clients proofs streams s0 s1 fit outs) in
    record {
      says = record { disk_is = disk; as_before = same; why = inr refl };
      keeps = record { keeps = same_keeps calls s0 s2 same; opens = (taken.0, subst (λ (made : List Opening). CallsOf made s0.opened s2.opened) (sym whole) opened) };
    }

-- ---- sinks of proofs stay where they were

fit_again : {Snk : Type 0} (file : Option (List ℕ)) (before after : Proofs Snk) → is_wanted after ≡ is_wanted before → IsFit file (sink_in before) → IsFit file (sink_in after)
fit_again None Unwanted Unwanted same fit = tt
fit_again None Unwanted (To sink) same fit = cc
fit_again None (To sink) after same fit = absurd fit
fit_again (Some file) Unwanted after same fit = absurd fit
fit_again (Some file) (To sink) Unwanted same fit = cc
fit_again (Some file) (To sink) (To other) same fit = tt

pub all_fit_again : {Src Snk Btw L T : Type 0} (R : Plan Src Snk Btw L → Session Src Snk L → T → Type 0) → ((plan : Plan Src Snk Btw L) (session : Session Src Snk L) (talk : T) → R plan session talk → is_wanted session.proofs ≡ is_wanted plan.proofs)
    → (clients : List ClientWord) (proofs : List ProofWord) (plans : List (Plan Src Snk Btw L)) (sessions : List (Session Src Snk L)) (talks : List T) → AreMatched R plans sessions talks → AreFit clients proofs (map streams_of plans)
    → AreFit clients proofs (map returned_of sessions)
all_fit_again R stays [] proofs [] [] [] all fit = fit
all_fit_again R stays [] proofs [] [] (t ∷ talks) all fit = absurd all
all_fit_again R stays [] proofs [] (q ∷ sessions) [] all fit = absurd all
all_fit_again R stays [] proofs [] (q ∷ sessions) (t ∷ talks) all fit = absurd all
all_fit_again R stays [] proofs (p ∷ plans) sessions talks all fit = absurd fit
all_fit_again R stays (c ∷ clients) proofs [] sessions talks all fit = absurd fit
all_fit_again R stays (c ∷ clients) proofs (p ∷ plans) [] [] all fit = absurd all
all_fit_again R stays (c ∷ clients) proofs (p ∷ plans) [] (t ∷ talks) all fit = absurd all
all_fit_again R stays (c ∷ clients) proofs (p ∷ plans) (q ∷ sessions) [] all fit = absurd all
all_fit_again R stays (c ∷ clients) proofs (p ∷ plans) (q ∷ sessions) (t ∷ talks) all fit = (
  fit_again (proof_of proofs c.client) p.proofs q.proofs (stays p q t all.0) fit.0,
  all_fit_again R stays clients proofs plans sessions talks all.1 fit.1,
)

-- ---- streams of clients that were served

-- what is said of the streams of clients that were served
pub record Rounds {Src Snk Dsk Btw L : Type 0} (clients : List ClientWord) (proofs : List ProofWord) (plans : List (Plan Src Snk Btw L)) (sessions : List (Session Src Snk L)) (s0 s2 : Scene Src Snk Dsk) (ends : Ends) : Type 0 where
  pub had : AreMatched (λ (client : ClientWord) (plan : Plan Src Snk Btw L) (session : Session Src Snk L). HadStreams s0 s2 client (proof_of proofs client.client) (streams_of plan) (returned_of session)) clients plans sessions
  pub keeps : KeepsTo {A = Ends} (client_calls clients proofs) s0 s2 (Ok ends)
  pub opens : All (IsOpen s0.standing) (client_calls clients proofs)
  pub quiet : s2.faults ≡ s0.faults

pub rounds_by : {Src Snk Dsk Btw L : Type 0} (clients : List ClientWord) (proofs : List ProofWord) (plans : List (Plan Src Snk Btw L)) (sessions : List (Session Src Snk L)) (s0 s1 s2 : Scene Src Snk Dsk) (ends : Ends) → AreClients clients proofs
    → AreFit clients proofs (map streams_of plans) → AreFit clients proofs (map returned_of sessions) → AreOut (client_loans clients proofs (map streams_of plans)) s0 s1 → AreIn (client_loans clients proofs (map returned_of sessions)) s1 s2
    → Rounds clients proofs plans sessions s0 s2 ends
rounds_by {Src} {Snk} {Dsk} {Btw} {L} clients proofs plans sessions s0 s1 s2 ends are fit fit' outs ins =
    let streams : List (ClientStreams Src Snk) = map streams_of plans in
    let returned : List (ClientStreams Src Snk) = map returned_of sessions in
    let calls = client_calls clients proofs in
    let all : AllKeep clients proofs streams returned s0 s2 = all_keep clients proofs streams returned s0 s1 s1 s2 are.calls fit fit' outs (as_before s1) ins in
    let opened : CallsOf calls s0.opened s2.opened = rw (in_calls (client_loans clients proofs returned) s1 s2 ins) (calls_made clients proofs streams s0 s1 fit outs) in
    record {
      had = matched_parts (λ (client : ClientWord) (one other : ClientStreams Src Snk). HadStreams s0 s2 client (proof_of proofs client.client) one other) (λ (plan : Plan Src Snk Btw L). streams_of plan) (λ (session : Session Src Snk L). returned_of session) clients plans sessions all.had;
      keeps = record { keeps = all.keeps; opens = opened };
      opens = calls_open clients proofs streams s0 s1 fit outs (apart_of calls are.calls);
      quiet = in_quiet (client_loans clients proofs returned) s1 s2 ins ∙ out_quiet (client_loans clients proofs streams) s0 s1 outs;
    }
