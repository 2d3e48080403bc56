-- A batch, as it is given.
use Rattle.std.specs.Prelude.{ℕ, List}
use Rattle.served_clients.specs.admission.declared.client_rules.clients.ClientRules.{ClientRules}
use Rattle.command_line.specs.declared.client_words.clients.ClientWord.{ClientWord}

-- the client whose list it is, how many workers answer it, and rules of clients
pub record Batch (L : Type 0) : Type 0 where
  pub client : ClientWord
  pub workers : ℕ
  pub rules : List (ClientRules L)

-- these, named
abbrev pub batch_of : {L : Type 0} → ClientWord → (workers : ℕ) → List (ClientRules L) → Batch L
batch_of client workers rules =
    record { client = client; workers = workers; rules = rules }
