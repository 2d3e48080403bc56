-- Clients that are served together, and the files where their proofs go.
use Rattle.std.specs.Prelude.{◌≢◌, ◌≤◌, ⊤, List, [], ◌∷◌, ◌++◌, All, AllPairs, length, Option, None}
use Rattle.std.specs.Prelude.{Some}
use Rattle.outside_io.specs.Openings.{Opening}
use Rattle.rail_types.specs.Limits.{IsClientName}
use Rattle.served_clients.specs.StreamClients.{AreDistinct, IsFit, stream_calls, stream_loans}
use Rattle.served_clients.specs.Lending.{Loan}
use Rattle.served_clients.specs.declared.client_streams.streams.ClientStreams.{ClientStreams}
use Rattle.command_line.specs.declared.client_words.clients.ClientWord.{ClientWord}
use Rattle.command_line.specs.declared.client_words.clients.TheConstants.{MAX_CLIENTS}
use Rattle.line_sessions.specs.declared.proofs.Proofs.{Proofs}
use Rattle.line_sessions.specs.declared.proofs.Proofs.TheVariants.{Unwanted, To}
use Rattle.command_line.specs.Proofs.{proof_of}
use Rattle.command_line.specs.declared.proof_words.proofs.ProofWord.{ProofWord}
use Rattle.served_clients.specs.declared.plans.Plan.{Plan}
use Rattle.served_clients.specs.declared.plans.Session.{Session}

-- the opening calls of clients, in order: of each its source, then its sink, and then the
-- file of its proofs if it has one
abbrev pub client_calls : List ClientWord → List ProofWord → List Opening
client_calls [] proofs = []
client_calls (client ∷ clients) proofs =
    stream_calls client (proof_of proofs client.client) ++ client_calls clients proofs

-- 1 to `MAX_CLIENTS` clients, with names of clients, whose names are distinct, and so are the names
-- of all that is opened for them: their inputs, and their outputs and files together
pub record AreClients (clients : List ClientWord) (proofs : List ProofWord) : Type 0 where
  pub some : 1 ≤ length clients
  pub few : length clients ≤ MAX_CLIENTS
  pub named : All (λ client. IsClientName client.client) clients
  pub names : AllPairs (λ one other. one.client ≢ other.client) clients
  pub calls : AreDistinct (client_calls clients proofs)

-- the sink of proofs, where they are wanted
abbrev pub sink_in : {Snk : Type 0} → Proofs Snk → Option Snk
sink_in Unwanted = None
sink_in (To sink) = Some sink

-- the streams of a client that is to be served, and of one that was
abbrev pub streams_of : {Src Snk Btw L : Type 0} → Plan Src Snk Btw L → ClientStreams Src Snk
streams_of plan =
    record { source = plan.source; sink = plan.sink; proof = sink_in plan.proofs }

abbrev pub returned_of : {Src Snk L : Type 0} → Session Src Snk L → ClientStreams Src Snk
returned_of session =
    record { source = session.source; sink = session.sink; proof = sink_in session.proofs }

-- these clients' streams as they are handed out, one client after another
abbrev pub client_loans : {Src Snk : Type 0} → List ClientWord → List ProofWord
    → List (ClientStreams Src Snk) → List (Loan Src Snk)
client_loans [] proofs streams = []
client_loans (client ∷ clients) proofs [] = []
client_loans (client ∷ clients) proofs (one ∷ streams) =
    stream_loans client (proof_of proofs client.client) one ++ client_loans clients proofs streams

-- there are streams for each of these clients, with a sink of proofs exactly
-- where it has a file for them
abbrev pub AreFit : {Src Snk : Type 0} → List ClientWord → List ProofWord
    → List (ClientStreams Src Snk) → Type 0
AreFit [] proofs [] = ⊤
AreFit [] proofs (one ∷ streams) = ⊥
AreFit (client ∷ clients) proofs [] = ⊥
AreFit (client ∷ clients) proofs (one ∷ streams) =
    IsFit (proof_of proofs client.client) one.proof × AreFit clients proofs streams
