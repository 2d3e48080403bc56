use Rattle.std.proofs.Common.{◌≡◌, map, take}
use Rattle.command_line.specs.Rules.{AreRulesOf, rule_text}
use Rattle.command_line.proofs.rule_words.reading.read_rules.Given as goal

abbrev pub invariant-loop-word : goal.invariant-loop-word
invariant-loop-word l = record {
  understood : AreRulesOf l.clients l.rules;
  spelled : map rule_text l.rules ≡ map (λ word. word.now) (take l.word-index l.words);
}
