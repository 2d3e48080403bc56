-- A word spells one rule at most, and words that spell rules of clients do so one by one.
use Rattle.std.proofs.Common.{◌≡◌, ℕ, zero, suc, ◌<◌, List, [], ◌∷◌, length, get_or, map, Bor, arith}
use Rattle.std.specs.List.{All}
use Rattle.std.proofs.lemmas.List.Elements.{All-head, All-tail}
use Rattle.command_line.proofs.Spellings.{unique_cut}
use Rattle.command_line.proofs.NamingClients.{name_lacks}
use Rattle.command_line.specs.declared.client_words.clients.ClientWord.{ClientWord}
use Rattle.command_line.specs.Rules.{IsRuleOf, IsRuleWord, kind_text, NamesOneOf, rule_text}
use Rattle.command_line.specs.declared.rule_words.reading.RuleWord.{RuleWord}

-- rules of one word name one client
pub one_client : (a b : RuleWord) → IsRuleWord a → IsRuleWord b → rule_text a ≡ rule_text b → a.client ≡ b.client
one_client a b is is' same = (unique_cut 61 a.client b.client (kind_text a.kind) (kind_text b.kind) (name_lacks a.client is.client) (name_lacks b.client is'.client) same).0

-- and either is a rule of the clients where the other is
pub named_alike : (clients : List ClientWord) (a b : RuleWord) → IsRuleWord a → IsRuleWord b → rule_text a ≡ rule_text b → NamesOneOf clients a → NamesOneOf clients b
named_alike clients a b is is' same named = rw (← one_client a b is is' same) named

abbrev pub text_of : Bor (List ℕ) → List ℕ
text_of word = word.now

-- a rule of the clients that a word spells
pub record Spells (clients : List ClientWord) (text : List ℕ) : Type 0 where
  pub rule : RuleWord
  pub is : IsRuleOf clients rule
  pub spelled : rule_text rule ≡ text

-- where words spell rules of the clients, each word spells one
pub spell_each : (clients : List ClientWord) (rules : List RuleWord) (words : List (Bor (List ℕ))) (i : ℕ) (d : Bor (List ℕ)) → All (IsRuleOf clients) rules → map rule_text rules ≡ map text_of words → i < length words → Spells clients (get_or words i d).now
spell_each clients [] [] i d are same within = absurd (omega (arith, within))
spell_each clients [] (word ∷ words) i d are same within = cc
spell_each clients (rule ∷ rules) [] i d are same within = absurd (omega (arith, within))
spell_each clients (rule ∷ rules) (word ∷ words) zero d are same within = record {
  rule = rule;
  is = All-head (IsRuleOf clients) rule rules are;
  spelled = cc;
}
spell_each clients (rule ∷ rules) (word ∷ words) (suc i) d are same within =
    let tails : map rule_text rules ≡ map text_of words = cc in
    spell_each clients rules words i d (All-tail (IsRuleOf clients) rule rules are) tails (omega (arith, within))
