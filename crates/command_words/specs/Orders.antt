-- The orders that words spell.
use Rattle.std.specs.Prelude.{◌≡◌, ◌≢◌, ⊤, ℕ, ◌^◌, ◌<◌, ◌≤◌, pos, List, [], ◌∷◌, ◌++◌, Option}
use Rattle.std.specs.Prelude.{None, Some, IfSome, codes, decimal, map}
use Rattle.rail_types.specs.Limits.{IsTick}
use Rattle.rail_types.specs.declared.limits.TheConstants.{MAX_NUMBER}
use Rattle.command_line.specs.Spelling.{Setting, setting, Spell, values_under, Word}
use Rattle.command_line.specs.Clients.{AreClients, client_text}
use Rattle.command_line.specs.declared.client_words.clients.ClientWord.{ClientWord}
use Rattle.command_line.specs.Proofs.{AreProofs, proof_text}
use Rattle.command_line.specs.declared.proof_words.proofs.ProofWord.{ProofWord}
use Rattle.command_line.specs.Rules.{AreRulesOf, rule_text}
use Rattle.command_line.specs.declared.rule_words.reading.RuleWord.{RuleWord}
use Rattle.command_line.specs.Workers.{IsBatch}
use Rattle.command_words.specs.declared.orders.TheConstants.{MAX_DEMO_NUMBER}
use Rattle.command_words.specs.declared.orders.Order.{Order}
use Rattle.command_words.specs.declared.orders.Order.TheVariants.{Tables, Init, Stairs, Capacity}
use Rattle.command_words.specs.declared.orders.Order.TheVariants.{Serve, Demo, Check, Batch, Carry}

-- the command word of an order
abbrev pub command_of : Order → Word
command_of (Tables network out) = codes "list"
command_of (Init network base journal from) = codes "init"
command_of (Stairs network base journal entry out) = codes "stairs"
command_of (Capacity network base journal first last from to out) = codes "capacity"
command_of (Serve network trains base journal clients proofs rules) = codes "serve"
command_of (Demo number out) = codes "demo"
command_of (Check network trains base journal proof) = codes "check"
command_of (Batch network trains base journal client workers rules) = codes "batch"
command_of (Carry network base journal from from_base left) = codes "carry"

-- an option that may be left out
abbrev pub if_given : List ℕ → Option (List ℕ) → List Setting
if_given option None = []
if_given option (Some value) = setting option value ∷ []

-- an option whose value is a number
abbrev pub numbered : List ℕ → ℕ → Setting
numbered option number = setting option (decimal number)

-- a client as an option
abbrev pub client_setting : ClientWord → Setting
client_setting word = setting (codes "client") (client_text word)

-- a proof as an option
abbrev pub proof_setting : ProofWord → Setting
proof_setting word = setting (codes "proof") (proof_text word)

-- a rule as an option
abbrev pub rule_setting : RuleWord → Setting
rule_setting rule = setting (codes "rule") (rule_text rule)

-- the options that may stand several times: clients, proofs, and rules
abbrev pub repeated : List ClientWord → List ProofWord → List RuleWord → List Setting
repeated clients proofs rules =
    map client_setting clients ++ (map proof_setting proofs ++ map rule_setting rules)

-- the options of an order, each with its value
abbrev pub settings_of : Order → List Setting
settings_of (Tables network out) =
    setting (codes "network") network ∷ setting (codes "out") out ∷ []
settings_of (Init network base journal from) =
    setting (codes "network") network ∷ setting (codes "base") base
    ∷ setting (codes "journal") journal ∷ if_given (codes "from") from
settings_of (Stairs network base journal entry out) =
    setting (codes "network") network ∷ setting (codes "base") base
    ∷ setting (codes "journal") journal ∷ numbered (codes "entry") entry
    ∷ setting (codes "out") out ∷ []
settings_of (Capacity network base journal first last from to out) =
    setting (codes "network") network ∷ setting (codes "base") base
    ∷ setting (codes "journal") journal ∷ numbered (codes "first") first
    ∷ numbered (codes "last") last ∷ numbered (codes "from") from ∷ numbered (codes "to") to
    ∷ setting (codes "out") out ∷ []
settings_of (Serve network trains base journal clients proofs rules) =
    setting (codes "network") network ∷ setting (codes "trains") trains
    ∷ setting (codes "base") base ∷ setting (codes "journal") journal
    ∷ repeated clients proofs rules
settings_of (Demo number out) = numbered (codes "number") number ∷ setting (codes "out") out ∷ []
settings_of (Check network trains base journal proof) =
    setting (codes "network") network ∷ setting (codes "trains") trains
    ∷ setting (codes "base") base ∷ setting (codes "journal") journal
    ∷ setting (codes "proof") proof ∷ []
settings_of (Batch network trains base journal client workers rules) =
    setting (codes "network") network ∷ setting (codes "trains") trains
    ∷ setting (codes "base") base ∷ setting (codes "journal") journal
    ∷ client_setting client ∷ numbered (codes "workers") workers ∷ map rule_setting rules
settings_of (Carry network base journal from from_base left) =
    setting (codes "network") network ∷ setting (codes "base") base
    ∷ setting (codes "journal") journal ∷ setting (codes "from") from
    ∷ setting (codes "from-base") from_base ∷ if_given (codes "left") left

-- zones, the first to the last, each of 32 bits
pub record AreZones (first last : ℕ) : Type 0 where
  pub ordered : first ≤ last
  pub small : last < 2 ^ 32

-- ticks from 0 on, at least one
pub record AreTicks (from to : ℕ) : Type 0 where
  pub ordered : from < to
  pub within : IsTick (pos to)

-- a file for lines that is none of the other five files of `carry`, which lines would destroy
pub record IsOfItsOwn (network base journal from from_base left : List ℕ) : Type 0 where
  pub not_network : left ≢ network
  pub not_base : left ≢ base
  pub not_journal : left ≢ journal
  pub not_from : left ≢ from
  pub not_from_base : left ≢ from_base

-- the old journal is not the new one, and the file for lines, where there is one, is none of the
-- others
pub record AreApart (network base journal from from_base : List ℕ) (left : Option (List ℕ))
    : Type 0 where
  pub journals : from ≢ journal
  pub lines : IfSome left (IsOfItsOwn network base journal from from_base)

-- the numbers, the clients, the proofs and the rules of an order are within their limits; each
-- proof is of one of the clients, each rule of one of the clients, or of one of the workers; the
-- files of `carry` are apart
abbrev pub IsWithinLimits : Order → Type 0
IsWithinLimits (Tables network out) = ⊤
IsWithinLimits (Init network base journal from) = ⊤
IsWithinLimits (Stairs network base journal entry out) = entry ≤ MAX_NUMBER
IsWithinLimits (Capacity network base journal first last from to out) =
    AreZones first last × AreTicks from to
IsWithinLimits (Serve network trains base journal clients proofs rules) =
    AreClients clients × AreProofs clients proofs × AreRulesOf clients rules
IsWithinLimits (Demo number out) = number ≤ MAX_DEMO_NUMBER
IsWithinLimits (Check network trains base journal proof) = ⊤
IsWithinLimits (Batch network trains base journal client workers rules) =
    IsBatch client workers rules
IsWithinLimits (Carry network base journal from from_base left) =
    AreApart network base journal from from_base left

-- each option has the same values in the same order
abbrev pub Agree : List Setting → List Setting → Type 0
Agree some others = (option : List ℕ) → values_under option some ≡ values_under option others

-- the command word and the options, which stand in any order, are those
-- of an order within its limits
pub record Asks (command : Word) (settings : List Setting) (order : Order) : Type 0 where
  pub command_is : command ≡ command_of order
  pub agree : Agree settings (settings_of order)
  pub limits : IsWithinLimits order

-- the words are a command word and options, each in one of its two forms, which ask for the order
pub record AreWords (words : List Word) (order : Order) : Type 0 where
  pub command : Word
  pub options : List Word
  pub settings : List Setting
  pub words_are : words ≡ command ∷ options
  pub spelled : Spell settings options
  pub asks : Asks command settings order

-- the rules of an order; none but `serve` and `batch` have any
abbrev pub rules_of : Order → List RuleWord
rules_of (Tables network out) = []
rules_of (Init network base journal from) = []
rules_of (Stairs network base journal entry out) = []
rules_of (Capacity network base journal first last from to out) = []
rules_of (Serve network trains base journal clients proofs rules) = rules
rules_of (Demo number out) = []
rules_of (Check network trains base journal proof) = []
rules_of (Batch network trains base journal client workers rules) = rules
rules_of (Carry network base journal from from_base left) = []

-- the words spell an order, and these are its rules
pub record AskRules (words : List Word) (rules : List RuleWord) : Type 0 where
  pub order : Order
  pub asked : AreWords words order
  pub rules_are : rules ≡ rules_of order
