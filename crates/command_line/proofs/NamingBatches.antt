-- A rule's word names one client, and words that spell rules of clients do so one by one.
use Rattle.std.proofs.Common.{◌≡◌, ℕ, zero, suc, ◌<◌, List, [], ◌∷◌, length, get_or, map, Bor, arith}
use Rattle.std.specs.List.{All}
use Rattle.std.proofs.lemmas.List.Elements.{All-head, All-tail}
use Rattle.command_line.specs.Rules.{IsRuleWord, rule_text}
use Rattle.command_line.specs.declared.rule_words.reading.RuleWord.{RuleWord}
use Rattle.command_line.proofs.NamingRules.{one_client, text_of}
use Rattle.command_line.specs.Workers.{IsRuleAmong, NamesOne}

-- of rules of one word either names one of the clients where the other does
pub named_alike : (names : List (List ℕ)) (a b : RuleWord) → IsRuleWord a → IsRuleWord b → rule_text a ≡ rule_text b → NamesOne names a → NamesOne names b
named_alike names a b is is' same named = rw (← one_client a b is is' same) named

-- a rule of the clients that a word spells
pub record Spells (names : List (List ℕ)) (text : List ℕ) : Type 0 where
  pub rule : RuleWord
  pub is : IsRuleAmong names rule
  pub spelled : rule_text rule ≡ text

-- where words spell rules of the clients, each word spells one
pub spell_each : (names : List (List ℕ)) (rules : List RuleWord) (words : List (Bor (List ℕ))) (i : ℕ) (d : Bor (List ℕ)) → All (IsRuleAmong names) rules → map rule_text rules ≡ map text_of words → i < length words → Spells names (get_or words i d).now
spell_each names [] [] i d are same within = absurd (omega (arith, within))
spell_each names [] (word ∷ words) i d are same within = cc
spell_each names (rule ∷ rules) [] i d are same within = absurd (omega (arith, within))
spell_each names (rule ∷ rules) (word ∷ words) zero d are same within = record {
  rule = rule;
  is = All-head (IsRuleAmong names) rule rules are;
  spelled = cc;
}
spell_each names (rule ∷ rules) (word ∷ words) (suc i) d are same within =
    let tails : map rule_text rules ≡ map text_of words = cc in
    spell_each names rules words i d (All-tail (IsRuleAmong names) rule rules are) tails (omega (arith, within))
