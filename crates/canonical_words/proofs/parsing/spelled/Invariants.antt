use Rattle.std.proofs.Common.{◌≡◌, ◌∷◌, map, string_bytes, take}
use Rattle.command_line.specs.Spelling.{joined}
use Rattle.canonical_words.proofs.parsing.spelled.Given as goal

abbrev pub invariant-loop-option : goal.invariant-loop-option
invariant-loop-option l = map string_bytes l.words.items ≡ l.command ∷ map joined (take l.option-index l.options)
