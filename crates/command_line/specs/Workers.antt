-- The workers of a batch, the clients that they are, and their rules.
use Rattle.std.specs.Prelude.{◌≡◌, ℕ, zero, suc, ◌+◌, ◌/◌, ◌%◌, ◌≤◌, List, [], ◌∷◌, ◌++◌, length}
use Rattle.std.specs.List.{All, Any}
use Rattle.command_line.specs.Clients.{IsClientWord}
use Rattle.command_line.specs.declared.client_words.clients.ClientWord.{ClientWord}
use Rattle.command_line.specs.Rules.{IsRuleWord}
use Rattle.command_line.specs.declared.rule_words.reading.RuleWord.{RuleWord}
use Rattle.command_line.specs.declared.batch_words.clients.TheConstants.{MAX_BATCH_NAME_BYTES}
use Rattle.command_line.specs.declared.batch_words.clients.TheConstants.{MAX_WORKERS}

-- the byte `_`
abbrev pub underscore : ℕ
underscore = 95

-- a number below 100 in two digits
abbrev pub two_digits : ℕ → List ℕ
two_digits number = (48 + number / 10) ∷ (48 + number % 10) ∷ []

-- the client that a worker of a batch is: the batch's name, `_` and the
-- worker's number in two digits
abbrev pub worker_name : (name : List ℕ) (worker : ℕ) → List ℕ
worker_name name worker = name ++ underscore ∷ two_digits worker

-- the clients that the first so many workers are, numbered from 1, in order
abbrev pub worker_names : (name : List ℕ) (workers : ℕ) → List (List ℕ)
worker_names name zero = []
worker_names name (suc workers) = worker_names name workers ++ worker_name name (suc workers) ∷ []

-- as many workers as a batch may have
pub record AreWorkers (workers : ℕ) : Type 0 where
  pub some : 1 ≤ workers
  pub few : workers ≤ MAX_WORKERS

-- a client of a batch: its name is so short that those of its workers are names of clients too
pub record IsBatchClient (word : ClientWord) : Type 0 where
  pub formed : IsClientWord word
  pub short : length word.client ≤ MAX_BATCH_NAME_BYTES

-- the rule names one of these clients
abbrev pub NamesOne : List (List ℕ) → RuleWord → Type 0
NamesOne names rule = Any (λ name. name ≡ rule.client) names

-- a rule that a word may spell, of one of these clients
pub record IsRuleAmong (names : List (List ℕ)) (rule : RuleWord) : Type 0 where
  pub formed : IsRuleWord rule
  pub named : NamesOne names rule

-- rules of the workers of a batch
abbrev pub AreWorkerRules : (name : List ℕ) (workers : ℕ) → List RuleWord → Type 0
AreWorkerRules name workers rules = All (IsRuleAmong (worker_names name workers)) rules

-- a batch that words may spell: its client, its workers and their rules
pub record IsBatch (client : ClientWord) (workers : ℕ) (rules : List RuleWord) : Type 0 where
  pub named : IsBatchClient client
  pub some : AreWorkers workers
  pub ruled : AreWorkerRules client.client workers rules
