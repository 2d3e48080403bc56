-- Streams of clients that went out, were used, and came in.
use Rattle.std.proofs.Common.{◌≡◌, ◌∙◌, ◌++◌, List, [], ◌∷◌, map, refl, sym, ap, subst}
use Rattle.std.proofs.lemmas.List.{map-append}
use Rattle.outside_io.specs.Openings.{Opening}
use Rattle.command_reports.specs.Scenes.{Scene}
use Rattle.command_reports.specs.Works.{Keeps}
use Rattle.request_server.specs.PlannedClients.{AreFit, client_calls, client_loans}
use Rattle.served_clients.specs.ClientRuns.{AreMatched}
use Rattle.served_clients.specs.StreamClients.{AreDistinct, HadStreams, stream_calls, stream_loans}
use Rattle.served_clients.specs.Lending.{AreIn, AreOut, IsAsBefore, Loan}
use Rattle.served_clients.specs.declared.client_streams.streams.ClientStreams.{ClientStreams}
use Rattle.request_server.proofs.StreamedClients.{stream_uses, streams_had, streams_lent, streams_returned, streams_used}
use Rattle.served_clients.proofs.Uses.{Apart, apart_of, lent, nested_keeps, NestKeeps, returned, Use, use_call, WereUsed}
use Rattle.command_line.specs.declared.client_words.clients.ClientWord.{ClientWord}
use Rattle.command_line.specs.Proofs.{proof_of}
use Rattle.command_line.specs.declared.proof_words.proofs.ProofWord.{ProofWord}

-- clients' streams in use
client_uses : {Src Snk : Type 0} → List ClientWord → List ProofWord → List (ClientStreams Src Snk) → List (ClientStreams Src Snk) → List (Use Src Snk)
client_uses [] proofs before after = []
client_uses (c ∷ clients) proofs [] after = []
client_uses (c ∷ clients) proofs (s ∷ before) [] = []
client_uses (c ∷ clients) proofs (s ∷ before) (r ∷ after) = stream_uses c (proof_of proofs c.client) s r ++ client_uses clients proofs before after

module _ (Src Snk : Type 0) (proofs : List ProofWord) where
  uses_lent : (clients : List ClientWord) (before after : List (ClientStreams Src Snk)) → AreFit clients proofs before → AreFit clients proofs after → map (λ (one : Use Src Snk). lent one) (client_uses clients proofs before after) ≡ client_loans clients proofs before
  unfolding client_uses
  uses_lent [] before after fit fit' = refl
  uses_lent (c ∷ clients) [] after fit fit' = absurd fit
  uses_lent (c ∷ clients) (s ∷ before) [] fit fit' = absurd fit'
  uses_lent (c ∷ clients) (s ∷ before) (r ∷ after) fit fit' =
      let f : Use Src Snk → Loan Src Snk = λ one. lent one in
      let file = proof_of proofs c.client in
      map-append f (stream_uses c file s r) (client_uses clients proofs before after)
      ∙ (ap (λ (l : List (Loan Src Snk)). l ++ map f (client_uses clients proofs before after)) (streams_lent Src Snk c file s r fit.0 fit'.0)
      ∙ ap (λ (l : List (Loan Src Snk)). stream_loans c file s ++ l) (uses_lent clients before after fit.1 fit'.1))

  uses_returned : (clients : List ClientWord) (before after : List (ClientStreams Src Snk)) → AreFit clients proofs before → AreFit clients proofs after → map (λ (one : Use Src Snk). returned one) (client_uses clients proofs before after) ≡ client_loans clients proofs after
  unfolding client_uses
  uses_returned [] before after fit fit' = refl
  uses_returned (c ∷ clients) [] after fit fit' = absurd fit
  uses_returned (c ∷ clients) (s ∷ before) [] fit fit' = absurd fit'
  uses_returned (c ∷ clients) (s ∷ before) (r ∷ after) fit fit' =
      let f : Use Src Snk → Loan Src Snk = λ one. returned one in
      let file = proof_of proofs c.client in
      map-append f (stream_uses c file s r) (client_uses clients proofs before after)
      ∙ (ap (λ (l : List (Loan Src Snk)). l ++ map f (client_uses clients proofs before after)) (streams_returned Src Snk c file s r fit.0 fit'.0)
      ∙ ap (λ (l : List (Loan Src Snk)). stream_loans c file r ++ l) (uses_returned clients before after fit.1 fit'.1))

  uses_calls : (clients : List ClientWord) (before after : List (ClientStreams Src Snk)) → AreFit clients proofs before → AreFit clients proofs after → map (λ (one : Use Src Snk). use_call one) (client_uses clients proofs before after) ≡ client_calls clients proofs
  unfolding client_uses
  uses_calls [] before after fit fit' = refl
  uses_calls (c ∷ clients) [] after fit fit' = absurd fit
  uses_calls (c ∷ clients) (s ∷ before) [] fit fit' = absurd fit'
  uses_calls (c ∷ clients) (s ∷ before) (r ∷ after) fit fit' =
      let f : Use Src Snk → Opening = λ one. use_call one in
      let file = proof_of proofs c.client in
      map-append f (stream_uses c file s r) (client_uses clients proofs before after)
      ∙ (ap (λ (l : List Opening). l ++ map f (client_uses clients proofs before after)) (streams_used Src Snk c file s r fit.0 fit'.0)
      ∙ ap (λ (l : List Opening). stream_calls c file ++ l) (uses_calls clients before after fit.1 fit'.1))

module _ {Src Snk Dsk : Type 0} (proofs : List ProofWord) (s0 s3 : Scene Src Snk Dsk) where
  used_both : (first next : List (Use Src Snk)) → WereUsed s0 s3 (first ++ next) → WereUsed s0 s3 first × WereUsed s0 s3 next
  used_both [] next used = (tt, used)
  used_both (one ∷ first) next used =
      let rest = used_both first next used.1 in
      ((used.0, rest.0), rest.1)

  had_all : (clients : List ClientWord) (before after : List (ClientStreams Src Snk)) → AreFit clients proofs before → AreFit clients proofs after → WereUsed s0 s3 (client_uses clients proofs before after)
      → AreMatched (λ (client : ClientWord) (one other : ClientStreams Src Snk). HadStreams s0 s3 client (proof_of proofs client.client) one other) clients before after
  unfolding client_uses
  had_all [] [] [] fit fit' used = tt
  had_all [] [] (r ∷ after) fit fit' used = absurd fit'
  had_all [] (s ∷ before) after fit fit' used = absurd fit
  had_all (c ∷ clients) [] after fit fit' used = absurd fit
  had_all (c ∷ clients) (s ∷ before) [] fit fit' used = absurd fit'
  had_all (c ∷ clients) (s ∷ before) (r ∷ after) fit fit' used =
      let file = proof_of proofs c.client in
      let both = used_both (stream_uses c file s r) (client_uses clients proofs before after) used in
      (streams_had s0 s3 c file s r fit.0 fit'.0 both.0, had_all clients before after fit.1 fit'.1 both.1)

-- nothing changed but under the names of the clients' streams, and each was used
pub record AllKeep {Src Snk Dsk : Type 0} (clients : List ClientWord) (proofs : List ProofWord) (before after : List (ClientStreams Src Snk)) (s0 s3 : Scene Src Snk Dsk) : Type 0 where
  pub keeps : Keeps (client_calls clients proofs) s0 s3
  pub had : AreMatched (λ (client : ClientWord) (one other : ClientStreams Src Snk). HadStreams s0 s3 client (proof_of proofs client.client) one other) clients before after

pub all_keep : {Src Snk Dsk : Type 0} (clients : List ClientWord) (proofs : List ProofWord) (before after : List (ClientStreams Src Snk)) (s0 s1 s2 s3 : Scene Src Snk Dsk) → AreDistinct (client_calls clients proofs) → AreFit clients proofs before → AreFit clients proofs after
    → AreOut (client_loans clients proofs before) s0 s1 → IsAsBefore s1 s2 → AreIn (client_loans clients proofs after) s2 s3 → AllKeep clients proofs before after s0 s3
all_keep {Src} {Snk} {Dsk} clients proofs before after s0 s1 s2 s3 distinct fit fit' outs same ins =
    let uses : List (Use Src Snk) = client_uses clients proofs before after in
    let calls = uses_calls Src Snk proofs clients before after fit fit' in
    let nest : NestKeeps uses s0 s3 = nested_keeps uses s0 s1 s2 s3 (subst Apart (sym calls) (apart_of (client_calls clients proofs) distinct))
    (subst (λ (l : List (Loan Src Snk)). AreOut l s0 s1) (sym (uses_lent Src Snk proofs clients before after fit fit')) outs) same
    (subst (λ (l : List (Loan Src Snk)). AreIn l s2 s3) (sym (uses_returned Src Snk proofs clients before after fit fit')) ins) in
    record {
      keeps = subst (λ (l : List Opening). Keeps l s0 s3) calls nest.keeps;
      had = had_all proofs s0 s3 clients before after fit fit' nest.used;
    }

-- lists of parts stand side by side as the lists that they are parts of
pub matched_parts : {C X Y P Q : Type 0} (R : C → P → Q → Type 0) (f : X → P) (g : Y → Q) (cs : List C) (xs : List X) (ys : List Y) → AreMatched R cs (map f xs) (map g ys) → AreMatched (λ c x y. R c (f x) (g y)) cs xs ys
matched_parts R f g [] [] [] all = all
matched_parts R f g [] [] (y ∷ ys) all = all
matched_parts R f g [] (x ∷ xs) [] all = all
matched_parts R f g [] (x ∷ xs) (y ∷ ys) all = all
matched_parts R f g (c ∷ cs) [] [] all = all
matched_parts R f g (c ∷ cs) [] (y ∷ ys) all = all
matched_parts R f g (c ∷ cs) (x ∷ xs) [] all = all
matched_parts R f g (c ∷ cs) (x ∷ xs) (y ∷ ys) all = (all.0, matched_parts R f g cs xs ys all.1)
