-- Streams put back from the last client on.
use Rattle.std.proofs.Common.{◌≡◌, ◌≤◌, ◌<◌, ◌∙◌, ◌++◌, ℕ, suc, List, [], ◌∷◌, Option, get_or, length, drop, refl, sym, ap, subst, arith, length-append, drop-cons}
use Rattle.std.proofs.lemmas.List.{append-nil, append_assoc}
use Rattle.command_reports.specs.Scenes.{Scene}
use Rattle.request_server.specs.PlannedClients.{client_loans}
use Rattle.served_clients.specs.StreamClients.{stream_loans}
use Rattle.served_clients.specs.Lending.{AreIn, Loan}
use Rattle.served_clients.specs.declared.client_streams.streams.ClientStreams.{ClientStreams}
use Rattle.served_clients.proofs.StreamLoans.{in_both}
use Rattle.command_line.specs.declared.client_words.clients.ClientWord.{ClientWord}
use Rattle.command_line.specs.Proofs.{proof_of}
use Rattle.command_line.specs.declared.proof_words.proofs.ProofWord.{ProofWord}

-- some streams are out, and those behind them are in again
pub record Returning {Src Snk Dsk : Type 0} (clients : List ClientWord) (proofs : List ProofWord) (total now : List (ClientStreams Src Snk)) (old new : Scene Src Snk Dsk) : Type 0 where
  pub back : List (ClientStreams Src Snk)
  pub whole : total ≡ now ++ back
  pub ins : AreIn (client_loans (drop (length now) clients) proofs back) old new

none_lent : {Src Snk : Type 0} (clients : List ClientWord) (proofs : List ProofWord) → client_loans {Src = Src} {Snk = Snk} clients proofs [] ≡ []
none_lent [] proofs = refl
none_lent (c ∷ clients) proofs = refl

pub returning_none : {Src Snk Dsk : Type 0} (clients : List ClientWord) (proofs : List ProofWord) (total : List (ClientStreams Src Snk)) (s : Scene Src Snk Dsk) → Returning clients proofs total total s s
returning_none {Src} {Snk} clients proofs total s = record {
  back = [];
  whole = sym (append-nil total);
  ins = subst (λ (l : List (Loan Src Snk)). AreIn l s s) (sym (none_lent {Src = Src} {Snk = Snk} (drop (length total) clients) proofs)) refl;
}

pub returning_more : {Src Snk Dsk : Type 0} (clients : List ClientWord) (proofs : List ProofWord) (total now before : List (ClientStreams Src Snk)) (one : ClientStreams Src Snk) (client : ClientWord) (s0 s1 s2 : Scene Src Snk Dsk) → length total ≤ length clients
    → before ≡ now ++ one ∷ [] → client ≡ get_or clients (length now) client → Returning clients proofs total before s0 s1 → AreIn (stream_loans client (proof_of proofs client.client) one) s1 s2 → Returning clients proofs total now s0 s2
returning_more {Src} {Snk} {Dsk} clients proofs total now before one client s0 s1 s2 few items here so back =
    let whole : total ≡ now ++ one ∷ so.back = so.whole ∙ (ap (λ (l : List (ClientStreams Src Snk)). l ++ so.back) items ∙ append_assoc now (one ∷ []) so.back) in
    let long = ap length whole ∙ length-append now (one ∷ so.back) in
    let next : length before ≡ suc (length now) = ap length items ∙ (length-append now (one ∷ []) ∙ omega arith) in
    let inside : length now < length clients = omega arith in
    let cut : drop (length now) clients ≡ client ∷ drop (length before) clients =
    drop-cons clients (length now) client inside ∙ (ap (λ (c : ClientWord). c ∷ drop (suc (length now)) clients) (sym here) ∙ ap (λ (n : ℕ). client ∷ drop n clients) (sym next)) in
    record {
      back = one ∷ so.back;
      whole = whole;
      ins = subst (λ (cs : List ClientWord). AreIn (client_loans cs proofs (one ∷ so.back)) s0 s2) (sym cut)
          (in_both (stream_loans client (proof_of proofs client.client) one) (client_loans (drop (length before) clients) proofs so.back) s0 s1 s2 so.ins back);
    }

pub returning_all : {Src Snk Dsk : Type 0} (clients : List ClientWord) (proofs : List ProofWord) (total now : List (ClientStreams Src Snk)) (s0 s1 : Scene Src Snk Dsk) → now ≡ [] → Returning clients proofs total now s0 s1 → AreIn (client_loans clients proofs total) s0 s1
returning_all {Src} {Snk} {Dsk} clients proofs total now s0 s1 none so =
    let back : so.back ≡ total = sym (so.whole ∙ ap (λ (l : List (ClientStreams Src Snk)). l ++ so.back) none) in
    let ins : AreIn (client_loans clients proofs so.back) s0 s1 = subst (λ (l : List (ClientStreams Src Snk)). AreIn (client_loans (drop (length l) clients) proofs so.back) s0 s1) none so.ins in
    subst (λ (l : List (ClientStreams Src Snk)). AreIn (client_loans clients proofs l) s0 s1) back ins

-- these streams, with that sink of proofs
abbrev pub streams_with : {Src Snk : Type 0} → Src → Snk → Option Snk → ClientStreams Src Snk
streams_with source sink proof = record { source = source; sink = sink; proof = proof }

pub same_proof : {Src Snk Dsk : Type 0} (client : ClientWord) (file : Option (List ℕ)) (source : Src) (sink : Snk) (one other : Option Snk) (s0 s1 : Scene Src Snk Dsk) → one ≡ other → AreIn (stream_loans client file (streams_with source sink one)) s0 s1
    → AreIn (stream_loans client file (streams_with source sink other)) s0 s1
same_proof {Src} {Snk} client file source sink one other s0 s1 same back = subst (λ (it : Option Snk). AreIn (stream_loans client file (streams_with source sink it)) s0 s1) same back
