-- The rules that words ask for.
use Rattle.std.specs.Prelude.{◌≡◌, ◌⊎◌, List, [], map}
use Rattle.command_line.specs.Spelling.{Word}
use Rattle.command_line.specs.declared.rule_words.reading.RuleWord.{RuleWord}
use Rattle.command_words.specs.Orders.{AskRules}
use Rattle.admission_rules.specs.declared.client_rules.clients.ClientRules.{ClientRules}
use Rattle.osrd_stdcm.specs.Built.{rules_asked, rules_in}
use Rattle.osrd_stdcm.specs.declared.built_rules.rules.BuiltRule.{BuiltRule}
use Rattle.osrd_stdcm.specs.Runs.{AskNothing}

-- rules, one for each that the words ask for, in their order, none of which was told of a path
pub record AreBuilt (words : List Word) (rules : List (ClientRules BuiltRule)) : Type 0 where
  pub asked : List RuleWord
  pub ask : AskRules words asked
  pub built : map rules_in rules ≡ map rules_asked asked

-- such rules, or none where the words spell no order
abbrev pub AreAsked : List Word → List (ClientRules BuiltRule) → Type 0
AreAsked words rules = AreBuilt words rules ⊎ (AskNothing words × (rules ≡ []))
