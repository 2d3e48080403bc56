use Rattle.std.proofs.Common.{◌≡◌, map, take}
use Rattle.std.specs.List.{All}
use Rattle.command_line.specs.Rules.{rule_text}
use Rattle.command_line.specs.Workers.{IsRuleAmong}
use Rattle.command_line.proofs.batch_words.rules.rules_among.Given as goal

abbrev pub invariant-loop-word : goal.invariant-loop-word
invariant-loop-word l = record {
  understood : All (IsRuleAmong l.names) l.rules;
  spelled : map rule_text l.rules ≡ map (λ word. word.now) (take l.word-index l.words);
}
