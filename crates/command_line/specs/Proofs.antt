-- The proofs of a command line, and the words that name them.
use Rattle.std.specs.Prelude.{◌≡◌, ◌≢◌, ℕ, List, [], ◌∷◌, ◌++◌, Option, None, Some, if◌then◌else◌}
use Rattle.std.specs.List.{All, AllPairs, Any}
use Rattle.std.specs.Str.{bytes_eq}
use Rattle.command_line.specs.Spelling.{equals_sign, Word}
use Rattle.rail_types.specs.Limits.{IsClientName}
use Rattle.command_line.specs.Clients.{IsStreamName}
use Rattle.command_line.specs.declared.client_words.clients.ClientWord.{ClientWord}
use Rattle.command_line.specs.declared.proof_words.proofs.ProofWord.{ProofWord}

-- the word of a proof: NAME=F
abbrev pub proof_text : ProofWord → Word
proof_text proof = proof.client ++ equals_sign ∷ proof.file

-- a proof that a word may name
pub record IsProofWord (proof : ProofWord) : Type 0 where
  pub client : IsClientName proof.client
  pub file : IsStreamName proof.file

-- the proof names one of these clients
abbrev pub NamesOneOf : List ClientWord → ProofWord → Type 0
NamesOneOf clients proof = Any (λ client. client.client ≡ proof.client) clients

-- none of these clients has a stream of this name
abbrev pub IsNoStreamOf : List ClientWord → List ℕ → Type 0
IsNoStreamOf clients file =
    All (λ client. (file ≢ client.input) × (file ≢ client.output)) clients

-- a proof that a word may name, of one of these clients, in a file that is no stream of theirs
pub record IsProofOf (clients : List ClientWord) (proof : ProofWord) : Type 0 where
  pub formed : IsProofWord proof
  pub named : NamesOneOf clients proof
  pub own : IsNoStreamOf clients proof.file

-- two proofs that share neither a client nor a file
pub record AreApart (one other : ProofWord) : Type 0 where
  pub clients : one.client ≢ other.client
  pub files : one.file ≢ other.file

-- proofs of these clients: at most one of each, no two of which share a file
pub record AreProofs (clients : List ClientWord) (proofs : List ProofWord) : Type 0 where
  pub each : All (IsProofOf clients) proofs
  pub apart : AllPairs AreApart proofs

-- the file for the proofs of a client: that of the first of these proofs that names it
abbrev pub proof_of : List ProofWord → (name : List ℕ) → Option (List ℕ)
proof_of [] name = None
proof_of (proof ∷ proofs) name =
    if bytes_eq proof.client name then Some proof.file else proof_of proofs name
