-- The admission rules of a command line, and the words that spell them.
use Rattle.std.specs.Prelude.{◌≡◌, ◌≤◌, ℕ, List, ◌∷◌, ◌++◌, codes, decimal}
use Rattle.std.specs.Fmt.{signed_decimal}
use Rattle.std.specs.List.{All, Any}
use Rattle.command_line.specs.Spelling.{equals_sign, Word}
use Rattle.command_line.specs.Clients.{colon}
use Rattle.command_line.specs.declared.client_words.clients.ClientWord.{ClientWord}
use Rattle.rail_types.specs.Limits.{IsClientName, IsTick}
use Rattle.command_line.specs.declared.rule_words.kinds.TheConstants.{MAX_RULE_NUMBER}
use Rattle.command_line.specs.declared.rule_words.kinds.RuleKind.{RuleKind}
use Rattle.command_line.specs.declared.rule_words.kinds.RuleKind.TheVariants.{Quota, Curfew}
use Rattle.command_line.specs.declared.rule_words.kinds.RuleKind.TheVariants.{Longest}
use Rattle.command_line.specs.declared.rule_words.reading.RuleWord.{RuleWord}

-- two texts with a colon between them
abbrev pub with_colon : (front back : List ℕ) → List ℕ
with_colon front back = front ++ colon ∷ back

-- what a rule is called
abbrev pub tag_of : RuleKind → List ℕ
tag_of (Quota limit) = codes "quota"
tag_of (Curfew from to) = codes "curfew"
tag_of (Longest metres) = codes "longest"

-- its numbers: a number, or two ticks with a colon between them
abbrev pub value_text : RuleKind → List ℕ
value_text (Quota limit) = decimal limit
value_text (Curfew from to) = with_colon (signed_decimal from) (signed_decimal to)
value_text (Longest metres) = decimal metres

-- quota:N, curfew:FROM:TO or longest:METRES
abbrev pub kind_text : RuleKind → List ℕ
kind_text kind = with_colon (tag_of kind) (value_text kind)

-- the word of a rule: the client whom it binds, `=`, and what it is
abbrev pub rule_text : RuleWord → Word
rule_text rule = rule.client ++ equals_sign ∷ kind_text rule.kind

-- the numbers of a rule are within their limits
abbrev pub IsKindWithinLimits : RuleKind → Type 0
IsKindWithinLimits (Quota limit) = limit ≤ MAX_RULE_NUMBER
IsKindWithinLimits (Curfew from to) = IsTick from × IsTick to
IsKindWithinLimits (Longest metres) = metres ≤ MAX_RULE_NUMBER

-- a rule that a word may spell
pub record IsRuleWord (rule : RuleWord) : Type 0 where
  pub client : IsClientName rule.client
  pub kind : IsKindWithinLimits rule.kind

-- the rule names one of these clients
abbrev pub NamesOneOf : List ClientWord → RuleWord → Type 0
NamesOneOf clients rule = Any (λ client. client.client ≡ rule.client) clients

-- a rule that a word may spell, of one of these clients
pub record IsRuleOf (clients : List ClientWord) (rule : RuleWord) : Type 0 where
  pub formed : IsRuleWord rule
  pub named : NamesOneOf clients rule

-- rules of these clients
abbrev pub AreRulesOf : List ClientWord → List RuleWord → Type 0
AreRulesOf clients rules = All (IsRuleOf clients) rules
