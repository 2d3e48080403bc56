use Rattle.std.proofs.Common.{◌≡◌, map, take}
use Rattle.osrd_stdcm.specs.Built.{rules_asked, rules_in}
use Rattle.osrd_stdcm.proofs.built_rules.making.build_rules.Given as goal

abbrev pub invariant-loop-word : goal.invariant-loop-word
invariant-loop-word l = map rules_in l.rules.items ≡ map rules_asked (take l.word-index l.words)
