use Rattle.std.proofs.Common.{◌≡◌, map, take}
use Rattle.canonical_words.proofs.parsing.values_of.Given as goal

abbrev pub invariant-loop-option : goal.invariant-loop-option
invariant-loop-option l = l.values.items ≡ map (λ s. s.value) (take l.option-index l.options)
