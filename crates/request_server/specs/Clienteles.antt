-- The clients of a run.
use Rattle.std.specs.Prelude.{List}
use Rattle.admission_rules.specs.declared.client_rules.clients.ClientRules.{ClientRules}
use Rattle.command_line.specs.declared.client_words.clients.ClientWord.{ClientWord}
use Rattle.command_line.specs.declared.proof_words.proofs.ProofWord.{ProofWord}

-- the clients that are served, the files for the proofs of some of them, and rules of clients
pub record Clientele (L : Type 0) : Type 0 where
  pub clients : List ClientWord
  pub proofs : List ProofWord
  pub rules : List (ClientRules L)

-- these, named
abbrev pub clientele_of : {L : Type 0} → List ClientWord → List ProofWord → List (ClientRules L)
    → Clientele L
clientele_of clients proofs rules =
    record { clients = clients; proofs = proofs; rules = rules }
