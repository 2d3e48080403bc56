-- A client whose streams could not be opened, behind others whose streams were.
use Rattle.std.proofs.Common.{◌≡◌, ◌∙◌, ◌++◌, List, ◌∷◌, map, sym, subst}
use Rattle.std.proofs.lemmas.List.{append_assoc}
use Rattle.outside_io.specs.Openings.{Opening}
use Rattle.command_reports.specs.Scenes.{Scene}
use Rattle.command_reports.specs.declared.refusals.Refusal.{Refusal}
use Rattle.request_server.specs.PlannedClients.{AreFit, client_calls, client_loans}
use Rattle.served_clients.specs.StreamClients.{AreDistinct, stream_calls}
use Rattle.served_clients.specs.Lending.{AreIn, AreOut, call_of, Loan}
use Rattle.served_clients.specs.Refusing.{IsStopped}
use Rattle.served_clients.specs.declared.client_streams.streams.ClientStreams.{ClientStreams}
use Rattle.served_clients.proofs.StreamStops.{stops_before, stops_behind_all}
use Rattle.served_clients.proofs.Uses.{Apart, apart_first, apart_of}
use Rattle.command_line.specs.declared.client_words.clients.ClientWord.{ClientWord}
use Rattle.request_server.proofs.PlanLoans.{calls_append, loan_calls}
use Rattle.command_line.specs.Proofs.{proof_of}
use Rattle.command_line.specs.declared.proof_words.proofs.ProofWord.{ProofWord}

pub stops_there : {Src Snk Dsk : Type 0} (front : List ClientWord) (client : ClientWord) (behind : List ClientWord) (proofs : List ProofWord) (streams : List (ClientStreams Src Snk)) (s0 s1 s2 s3 : Scene Src Snk Dsk) (refusal : Refusal)
    → AreDistinct (client_calls (front ++ client ∷ behind) proofs) → AreFit front proofs streams → AreOut (client_loans front proofs streams) s0 s1 → IsStopped (stream_calls client (proof_of proofs client.client)) s1 s2 refusal → AreIn (client_loans front proofs streams) s2 s3
    → IsStopped (client_calls (front ++ client ∷ behind) proofs) s0 s3 refusal
stops_there {Src} {Snk} {Dsk} front client behind proofs streams s0 s1 s2 s3 refusal distinct fit outs stops ins =
    let own = stream_calls client (proof_of proofs client.client) in
    let rest = client_calls behind proofs in
    let first = client_calls front proofs in
    let loans : List (Loan Src Snk) = client_loans front proofs streams in
    let f : Loan Src Snk → Opening = λ loan. call_of loan in
    let calls : map f loans ≡ first = loan_calls front proofs streams fit in
    let cut : client_calls (front ++ client ∷ behind) proofs ≡ (first ++ own) ++ rest = calls_append front (client ∷ behind) proofs ∙ sym (append_assoc first own rest) in
    let apart : Apart (first ++ own) = apart_first (first ++ own) rest (subst Apart cut (apart_of (client_calls (front ++ client ∷ behind) proofs) distinct)) in
    let stopped : IsStopped (map f loans ++ own) s0 s3 refusal =
    stops_behind_all loans own s0 s1 s2 s3 refusal (subst (λ (l : List Opening). Apart (l ++ own)) (sym calls) apart) outs stops ins in
    subst (λ (l : List Opening). IsStopped l s0 s3 refusal) (sym cut)
    (stops_before (first ++ own) rest s0 s3 refusal (subst (λ (l : List Opening). IsStopped (l ++ own) s0 s3 refusal) calls stopped))
