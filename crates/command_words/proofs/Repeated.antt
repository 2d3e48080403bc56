-- Clients, proofs and rules as options that stand several times.
use Rattle.std.proofs.Common.{◌≡◌, false, true, List, ℕ, [], ◌∷◌, ◌++◌, map, codes, refl, ap}
use Rattle.std.specs.Str.{bytes_eq}
use Rattle.command_line.specs.Spelling.{are_among, Setting, values_under, Word}
use Rattle.command_line.specs.Clients.{client_text}
use Rattle.command_line.specs.declared.client_words.clients.ClientWord.{ClientWord}
use Rattle.command_line.specs.Proofs.{proof_text}
use Rattle.command_line.specs.declared.proof_words.proofs.ProofWord.{ProofWord}
use Rattle.command_line.specs.Rules.{rule_text}
use Rattle.command_line.specs.declared.rule_words.reading.RuleWord.{RuleWord}
use Rattle.command_words.specs.Orders.{proof_setting, repeated, rule_setting}

-- proofs and rules as options
abbrev pub behind : List ProofWord → List RuleWord → List Setting
behind proofs rules = map proof_setting proofs ++ map rule_setting rules

-- rules stand under no option but their own
pub no_rules : (option : List ℕ) → bytes_eq (codes "rule") option ≡ false → (rules : List RuleWord) → values_under option (map rule_setting rules) ≡ []
no_rules option apart [] = refl
no_rules option apart (rule ∷ rules) = rw apart (no_rules option apart rules)

-- nor do proofs and rules
pub none_behind : (option : List ℕ) → bytes_eq (codes "proof") option ≡ false → bytes_eq (codes "rule") option ≡ false → (proofs : List ProofWord) (rules : List RuleWord) → values_under option (behind proofs rules) ≡ []
none_behind option proof rule [] rules = no_rules option rule rules
none_behind option proof rule (p ∷ proofs) rules = rw proof (none_behind option proof rule proofs rules)

-- the clients' words stand under their option
pub clients_under : (clients : List ClientWord) (proofs : List ProofWord) (rules : List RuleWord) → values_under (codes "client") (repeated clients proofs rules) ≡ map client_text clients
clients_under [] proofs rules = none_behind (codes "client") refl refl proofs rules
clients_under (client ∷ clients) proofs rules = ap (λ (texts : List Word). client_text client ∷ texts) (clients_under clients proofs rules)

proofs_behind : (proofs : List ProofWord) (rules : List RuleWord) → values_under (codes "proof") (behind proofs rules) ≡ map proof_text proofs
proofs_behind [] rules = no_rules (codes "proof") refl rules
proofs_behind (proof ∷ proofs) rules = ap (λ (texts : List Word). proof_text proof ∷ texts) (proofs_behind proofs rules)

-- the proofs' words under theirs
pub proofs_under : (clients : List ClientWord) (proofs : List ProofWord) (rules : List RuleWord) → values_under (codes "proof") (repeated clients proofs rules) ≡ map proof_text proofs
proofs_under [] proofs rules = proofs_behind proofs rules
proofs_under (client ∷ clients) proofs rules = proofs_under clients proofs rules

-- the rules' words stand under their option
pub rules_alone : (rules : List RuleWord) → values_under (codes "rule") (map rule_setting rules) ≡ map rule_text rules
rules_alone [] = refl
rules_alone (rule ∷ rules) = ap (λ (texts : List Word). rule_text rule ∷ texts) (rules_alone rules)

rules_behind : (proofs : List ProofWord) (rules : List RuleWord) → values_under (codes "rule") (behind proofs rules) ≡ map rule_text rules
rules_behind [] rules = rules_alone rules
rules_behind (proof ∷ proofs) rules = rules_behind proofs rules

-- also behind clients and proofs
pub rules_under : (clients : List ClientWord) (proofs : List ProofWord) (rules : List RuleWord) → values_under (codes "rule") (repeated clients proofs rules) ≡ map rule_text rules
rules_under [] proofs rules = rules_behind proofs rules
rules_under (client ∷ clients) proofs rules = rules_under clients proofs rules

-- an option that clients, proofs and rules do not stand under
pub record IsOther (option : List ℕ) : Type 0 where
  pub client : bytes_eq (codes "client") option ≡ false
  pub proof : bytes_eq (codes "proof") option ≡ false
  pub rule : bytes_eq (codes "rule") option ≡ false

-- clients, proofs and rules stand under no other options
pub others_under : (option : List ℕ) → IsOther option → (clients : List ClientWord) (proofs : List ProofWord) (rules : List RuleWord) → values_under option (repeated clients proofs rules) ≡ []
others_under option other [] proofs rules = none_behind option other.proof other.rule proofs rules
others_under option other (c ∷ clients) proofs rules = rw other.client (others_under option other clients proofs rules)

abbrev pub serve_options : List (List ℕ)
serve_options = codes "network" ∷ codes "trains" ∷ codes "base" ∷ codes "journal" ∷ codes "client" ∷ codes "proof" ∷ codes "rule" ∷ []

rules_among : (rules : List RuleWord) → are_among serve_options (map rule_setting rules) ≡ true
rules_among [] = refl
rules_among (rule ∷ rules) = rules_among rules

behind_among : (proofs : List ProofWord) (rules : List RuleWord) → are_among serve_options (behind proofs rules) ≡ true
behind_among [] rules = rules_among rules
behind_among (proof ∷ proofs) rules = behind_among proofs rules

-- the options of `serve` are of these kinds
pub repeated_among : (clients : List ClientWord) (proofs : List ProofWord) (rules : List RuleWord) → are_among serve_options (repeated clients proofs rules) ≡ true
repeated_among [] proofs rules = behind_among proofs rules
repeated_among (client ∷ clients) proofs rules = repeated_among clients proofs rules

-- a value that stands alone does so where clients, proofs and rules stand too
pub alone : (option : List ℕ) → IsOther option → (clients : List ClientWord) (proofs : List ProofWord) (rules : List RuleWord) (values : List Word) (value : Word) → values ≡ value ∷ [] → values ≡ value ∷ values_under option (repeated clients proofs rules)
alone option other clients proofs rules values value once = rw (others_under option other clients proofs rules) once

-- a value that stands alone where clients, proofs and rules stand too does so
pub alone_too : (option : List ℕ) → IsOther option → (clients : List ClientWord) (proofs : List ProofWord) (rules : List RuleWord) (values : List Word) (value : Word) → values ≡ value ∷ values_under option (repeated clients proofs rules) → values ≡ value ∷ []
alone_too option other clients proofs rules values value once = rw (others_under option other clients proofs rules) at once

pub network_is_other : IsOther (codes "network")
network_is_other = record { client = refl; proof = refl; rule = refl }

pub trains_is_other : IsOther (codes "trains")
trains_is_other = record { client = refl; proof = refl; rule = refl }

pub base_is_other : IsOther (codes "base")
base_is_other = record { client = refl; proof = refl; rule = refl }

pub journal_is_other : IsOther (codes "journal")
journal_is_other = record { client = refl; proof = refl; rule = refl }

abbrev pub batch_options : List (List ℕ)
batch_options = codes "network" ∷ codes "trains" ∷ codes "base" ∷ codes "journal" ∷ codes "client" ∷ codes "workers" ∷ codes "rule" ∷ []

-- the options of a batch are of these kinds
pub ruled_among : (rules : List RuleWord) → are_among batch_options (map rule_setting rules) ≡ true
ruled_among [] = refl
ruled_among (rule ∷ rules) = ruled_among rules

-- a value that stands alone does so where rules stand too
pub beside_rules : (option : List ℕ) → bytes_eq (codes "rule") option ≡ false → (rules : List RuleWord) (values : List Word) (value : Word) → values ≡ value ∷ [] → values ≡ value ∷ values_under option (map rule_setting rules)
beside_rules option apart rules values value once = rw (no_rules option apart rules) once

-- a value that stands alone where rules stand too does so
pub beside_rules_too : (option : List ℕ) → bytes_eq (codes "rule") option ≡ false → (rules : List RuleWord) (values : List Word) (value : Word) → values ≡ value ∷ values_under option (map rule_setting rules) → values ≡ value ∷ []
beside_rules_too option apart rules values value once = rw (no_rules option apart rules) at once
