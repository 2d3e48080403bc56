-- A client's streams, under the names that words tell.
use Rattle.std.specs.Prelude.{◌≡◌, ◌≢◌, ⊤, ℕ, AllPairs, List, [], ◌∷◌, Option, None, Some}
use Rattle.outside_io.specs.Openings.{Opening, source_at, sink_at}
use Rattle.outside_io.specs.Places.{IsKeptAt, Place, place_once_opened, place_once_returned}
use Rattle.command_reports.specs.Scenes.{Scene}
use Rattle.served_clients.specs.Lending.{Loan, sink_of, source_of}
use Rattle.served_clients.specs.declared.client_streams.streams.ClientStreams.{ClientStreams}
use Rattle.command_line.specs.declared.client_words.clients.ClientWord.{ClientWord}

-- ---- opening calls

-- the opening calls of a client: its source, and then its sink
abbrev pub pair_calls : ClientWord → List Opening
pair_calls client = source_at client.input ∷ sink_at client.output ∷ []

-- the opening call of the file where proofs go, if there is one
abbrev pub file_calls : Option (List ℕ) → List Opening
file_calls None = []
file_calls (Some file) = sink_at file ∷ []

-- the opening calls of a client whose proofs go to that file: its source, its sink and the file
abbrev pub stream_calls : ClientWord → Option (List ℕ) → List Opening
stream_calls client file = source_at client.input ∷ sink_at client.output ∷ file_calls file

-- no two of the calls are the same
abbrev pub AreDistinct : List Opening → Type 0
AreDistinct calls = AllPairs (λ one other. one ≢ other) calls

-- ---- loans

-- a source and a sink as they are handed out to a client
abbrev pub pair_loans : {Src Snk : Type 0} → ClientWord → Src × Snk → List (Loan Src Snk)
pair_loans client pair = source_of client.input pair.0 ∷ sink_of client.output pair.1 ∷ []

-- the sink of proofs as it is handed out, if there is one
abbrev pub file_loans : {Src Snk : Type 0} → Option (List ℕ) → Option Snk → List (Loan Src Snk)
file_loans None it = []
file_loans (Some file) None = []
file_loans (Some file) (Some it) = sink_of file it ∷ []

-- a client's streams as they are handed out
abbrev pub stream_loans : {Src Snk : Type 0} → ClientWord → Option (List ℕ)
    → ClientStreams Src Snk → List (Loan Src Snk)
stream_loans client file streams =
    source_of client.input streams.source ∷ sink_of client.output streams.sink
    ∷ file_loans file streams.proof

-- there is a sink of proofs exactly where there is a file for them
abbrev pub IsFit : {Snk : Type 0} → Option (List ℕ) → Option Snk → Type 0
IsFit None None = ⊤
IsFit None (Some it) = ⊥
IsFit (Some file) None = ⊥
IsFit (Some file) (Some it) = ⊤

-- ---- what streams become

-- this object was kept at a place and that one is now, where the outside tells
pub record IsExchanged {T : Type 0} (place place' : Place T) (before after : T) : Type 0 where
  pub before_is : IsKeptAt place before
  pub after_is : place' ≡ place_once_returned after (place_once_opened place)

-- the sink of proofs was used and put back under the name of its file, where there is one
abbrev pub HadProof : {Src Snk Dsk : Type 0} → Scene Src Snk Dsk → Scene Src Snk Dsk
    → Option (List ℕ) → Option Snk → Option Snk → Type 0
HadProof old new None None None = ⊤
HadProof old new (Some file) (Some before) (Some after) =
    IsExchanged (old.sinks file) (new.sinks file) before after
HadProof old new file before after = ⊥

-- a client's streams were used and put back, each under its name
pub record HadStreams {Src Snk Dsk : Type 0} (old new : Scene Src Snk Dsk) (client : ClientWord)
    (file : Option (List ℕ)) (before after : ClientStreams Src Snk) : Type 0 where
  pub source : IsExchanged (old.sources client.input) (new.sources client.input)
      before.source after.source
  pub sink : IsExchanged (old.sinks client.output) (new.sinks client.output)
      before.sink after.sink
  pub proof : HadProof old new file before.proof after.proof
