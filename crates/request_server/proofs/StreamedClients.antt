-- The streams of one client.
use Rattle.std.proofs.Common.{◌≡◌, ℕ, List, [], ◌∷◌, Option, None, Some, map, refl, ap}
use Rattle.outside_io.specs.Openings.{Opening, source_at, sink_at}
use Rattle.command_reports.specs.Scenes.{Scene}
use Rattle.served_clients.specs.StreamClients.{file_calls, file_loans, HadProof, HadStreams, IsFit, stream_calls, stream_loans}
use Rattle.served_clients.specs.Lending.{call_of, Loan, sink_of, source_of}
use Rattle.served_clients.specs.declared.client_streams.streams.ClientStreams.{ClientStreams}
use Rattle.served_clients.proofs.Uses.{lent, returned, sink_used, source_used, Use, use_call, WereUsed}
use Rattle.command_line.specs.declared.client_words.clients.ClientWord.{ClientWord}

-- the file of proofs in use
abbrev pub file_uses : {Src Snk : Type 0} → Option (List ℕ) → Option Snk → Option Snk → List (Use Src Snk)
file_uses None before after = []
file_uses (Some file) None after = []
file_uses (Some file) (Some before) None = []
file_uses (Some file) (Some before) (Some after) = sink_used file before after ∷ []

-- a client's streams in use
abbrev pub stream_uses : {Src Snk : Type 0} → ClientWord → Option (List ℕ) → ClientStreams Src Snk → ClientStreams Src Snk → List (Use Src Snk)
stream_uses client file before after = source_used client.input before.source after.source ∷ sink_used client.output before.sink after.sink ∷ file_uses file before.proof after.proof

module _ (Src Snk : Type 0) where
  -- what is handed out is what the calls open
  file_calls_are : (file : Option (List ℕ)) (it : Option Snk) → IsFit file it → map (λ (loan : Loan Src Snk). call_of loan) (file_loans file it) ≡ file_calls file
  file_calls_are None None fit = refl
  file_calls_are None (Some it) fit = refl
  file_calls_are (Some file) None fit = absurd fit
  file_calls_are (Some file) (Some it) fit = refl

  pub stream_calls_are : (client : ClientWord) (file : Option (List ℕ)) (one : ClientStreams Src Snk) → IsFit file one.proof → map (λ (loan : Loan Src Snk). call_of loan) (stream_loans client file one) ≡ stream_calls client file
  stream_calls_are client file one fit = ap (λ (calls : List Opening). source_at client.input ∷ sink_at client.output ∷ calls) (file_calls_are file one.proof fit)

  file_lent : (file : Option (List ℕ)) (before after : Option Snk) → IsFit file before → IsFit file after → map (λ (one : Use Src Snk). lent one) (file_uses file before after) ≡ file_loans file before
  file_lent None before after fit fit' = refl
  file_lent (Some file) None after fit fit' = absurd fit
  file_lent (Some file) (Some before) None fit fit' = absurd fit'
  file_lent (Some file) (Some before) (Some after) fit fit' = refl

  pub streams_lent : (client : ClientWord) (file : Option (List ℕ)) (before after : ClientStreams Src Snk) → IsFit file before.proof → IsFit file after.proof → map (λ (one : Use Src Snk). lent one) (stream_uses client file before after) ≡ stream_loans client file before
  streams_lent client file before after fit fit' = ap (λ (loans : List (Loan Src Snk)). source_of client.input before.source ∷ sink_of client.output before.sink ∷ loans) (file_lent file before.proof after.proof fit fit')

  file_returned : (file : Option (List ℕ)) (before after : Option Snk) → IsFit file before → IsFit file after → map (λ (one : Use Src Snk). returned one) (file_uses file before after) ≡ file_loans file after
  file_returned None before after fit fit' = refl
  file_returned (Some file) None after fit fit' = absurd fit
  file_returned (Some file) (Some before) None fit fit' = absurd fit'
  file_returned (Some file) (Some before) (Some after) fit fit' = refl

  pub streams_returned : (client : ClientWord) (file : Option (List ℕ)) (before after : ClientStreams Src Snk) → IsFit file before.proof → IsFit file after.proof → map (λ (one : Use Src Snk). returned one) (stream_uses client file before after) ≡ stream_loans client file after
  streams_returned client file before after fit fit' = ap (λ (loans : List (Loan Src Snk)). source_of client.input after.source ∷ sink_of client.output after.sink ∷ loans) (file_returned file before.proof after.proof fit fit')

  file_used : (file : Option (List ℕ)) (before after : Option Snk) → IsFit file before → IsFit file after → map (λ (one : Use Src Snk). use_call one) (file_uses file before after) ≡ file_calls file
  file_used None before after fit fit' = refl
  file_used (Some file) None after fit fit' = absurd fit
  file_used (Some file) (Some before) None fit fit' = absurd fit'
  file_used (Some file) (Some before) (Some after) fit fit' = refl

  pub streams_used : (client : ClientWord) (file : Option (List ℕ)) (before after : ClientStreams Src Snk) → IsFit file before.proof → IsFit file after.proof → map (λ (one : Use Src Snk). use_call one) (stream_uses client file before after) ≡ stream_calls client file
  streams_used client file before after fit fit' = ap (λ (calls : List Opening). source_at client.input ∷ sink_at client.output ∷ calls) (file_used file before.proof after.proof fit fit')

module _ {Src Snk Dsk : Type 0} (s0 s3 : Scene Src Snk Dsk) where
  proof_had : (file : Option (List ℕ)) (before after : Option Snk) → IsFit file before → IsFit file after → WereUsed s0 s3 (file_uses file before after) → HadProof s0 s3 file before after
  proof_had None None None fit fit' used = tt
  proof_had None None (Some after) fit fit' used = absurd fit'
  proof_had None (Some before) None fit fit' used = absurd fit
  proof_had None (Some before) (Some after) fit fit' used = absurd fit
  proof_had (Some file) None None fit fit' used = absurd fit
  proof_had (Some file) None (Some after) fit fit' used = absurd fit
  proof_had (Some file) (Some before) None fit fit' used = absurd fit'
  proof_had (Some file) (Some before) (Some after) fit fit' used = used.0

  -- a client's streams were used
  pub streams_had : (client : ClientWord) (file : Option (List ℕ)) (before after : ClientStreams Src Snk) → IsFit file before.proof → IsFit file after.proof → WereUsed s0 s3 (stream_uses client file before after) → HadStreams s0 s3 client file before after
  streams_had client file before after fit fit' used = record {
    source = used.0;
    sink = used.1.0;
    proof = proof_had file before.proof after.proof fit fit' used.1.1;
  }
